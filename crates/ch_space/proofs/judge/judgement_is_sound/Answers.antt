use Rattle.ch_space.proofs.Judgings.{none_if_sound, sound_if_none}
use Rattle.ch_space.proofs.judge.judgement_is_sound.Goals as goal

pub returns-clause-none : goal.returns-clause-none
returns-clause-none c = sound_if_none

pub returns-clause-sound : goal.returns-clause-sound
returns-clause-sound c = none_if_sound
