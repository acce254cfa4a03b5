use Rattle.std.proofs.Common.{ap, sym, ◌∙◌}
use Rattle.ch_script.specs.Sections.{section_at}
use Rattle.ch_script.proofs.SectionsFit.{section_name, section_recipe}
use Rattle.ch_script.proofs.section.section.Goals as goal

pub returns-clause-recipe : goal.returns-clause-recipe
returns-clause-recipe c =
    section_recipe c.args.source.now.bytes.now c.args.tokens.now c.args.from _ c.in_ok-parts.rest.now c.requires.short c.requires.cut (ap (section_at c.args.source.now.bytes.now) (sym c.split_at.ensures.back) ∙ c.in_ok-parts.ensures.exact)

pub returns-clause-name : goal.returns-clause-name
returns-clause-name c =
    section_name c.args.source.now.bytes.now c.args.tokens.now c.args.from _ c.in_ok-parts.rest.now c.requires.short c.requires.cut (ap (section_at c.args.source.now.bytes.now) (sym c.split_at.ensures.back) ∙ c.in_ok-parts.ensures.exact)
