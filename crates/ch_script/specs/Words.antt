-- The words of commands, which are plain names elsewhere.
use Rattle.std.specs.Prelude.{ℕ, List, [], ◌∷◌, codes, Option, find}
use Rattle.std.specs.Str.{bytes_eq}
use Rattle.ch_script.specs.declared.word.Word.{Word}
use Rattle.ch_script.specs.declared.word.Word.TheVariants.{Permute, Skew, Shift, Tile, Unroll, Split, Peel, Fuse, Distribute, Datacopy, Accumulate}

abbrev pub word_text : Word → List ℕ
word_text Permute = codes "permute"
word_text Skew = codes "skew"
word_text Shift = codes "shift"
word_text Tile = codes "tile"
word_text Unroll = codes "unroll"
word_text Split = codes "split"
word_text Peel = codes "peel"
word_text Fuse = codes "fuse"
word_text Distribute = codes "distribute"
word_text Datacopy = codes "datacopy"
word_text Accumulate = codes "accumulate"

abbrev pub command_words : List Word
command_words =
    Permute ∷ Skew ∷ Shift ∷ Tile ∷ Unroll ∷ Split ∷ Peel ∷ Fuse ∷ Distribute ∷ Datacopy ∷ Accumulate ∷ []

-- the command word whose text this is, if there is one
unfoldable pub word_of : List ℕ → Option Word
word_of text = find (λ w. bytes_eq (word_text w) text) command_words

-- what begins a condition between parameters
abbrev pub require_text : List ℕ
require_text = codes "require"
