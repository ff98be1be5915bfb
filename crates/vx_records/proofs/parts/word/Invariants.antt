use Rattle.std.proofs.Common.{◌≡◌, drop}
use Rattle.vx_records.specs.Parts.{word_in}
use Rattle.vx_records.proofs.parts.word.Given as goal

-- the bytes that are left of the word are looked for in the text that is left
abbrev pub invariant-loop-wanted : goal.invariant-loop-wanted
invariant-loop-wanted l = word_in l.word l.text ≡ word_in (drop l.wanted-index l.word) l.rest
