-- Labels of choices.
use Rattle.std.specs.Prelude.{ℕ, List}
use Rattle.vx_election_model.specs.declared.choice.Choice.{Choice}

-- how many characters a label may have
abbrev pub label_limit : ℕ
label_limit = 58

-- an answer of a yes/no contest
abbrev pub answer_of : List ℕ → List ℕ → Choice
answer_of id label = record { id = id; label = label; name = label }
