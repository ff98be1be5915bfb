use Rattle.std.proofs.Common.{◌≡◌, drop}
use Rattle.std.specs.Prelude.{find}
use Rattle.std.specs.Str.{bytes_eq}
use Rattle.vx_words.specs.Names.{name_word}
use Rattle.vx_words.proofs.name.name_among.Given as goal

-- the first that the word names is among those that are left
abbrev pub invariant-loop-name : goal.invariant-loop-name
invariant-loop-name l =
    find (λ name. bytes_eq (name_word name) l.word) (drop l.name-index l.among) ≡ find (λ name. bytes_eq (name_word name) l.word) l.among
