use Rattle.std.proofs.Common.{◌≡◌, take}
use Rattle.clap.specs.Words.{app_of}
use Rattle.vx_words.specs.Line.{with_names}
use Rattle.vx_words.proofs.line.with_forms.Given as goal

-- the command line with the names so far
abbrev pub invariant-loop-name : goal.invariant-loop-name
invariant-loop-name l = app_of l.line ≡ with_names (app_of l.initial.line) (take l.name-index l.names)
