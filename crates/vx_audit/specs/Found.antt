-- How far an audit has come: its lines so far, and its counts.
use Rattle.std.specs.Prelude.{◌≡◌, ℕ, ◌+◌, List, [], ◌++◌, string_bytes}
use Rattle.std.specs.List.{flat_map}
use Rattle.vx_audit.specs.declared.comparing.Findings.{Findings}
use Rattle.vx_audit.specs.Audit.{how_many, pair_text, sums_line}
use Rattle.vx_audit.specs.Pairs.{Pair, is_compared, is_different, is_missing}

-- the lines of pairs
abbrev pub pair_lines : List Pair → List ℕ
pair_lines pairs = flat_map pair_text pairs

-- lines were added, and pairs counted
pub record Finds (lines : List ℕ) (pairs : List Pair) (old new : Findings) : Type 0 where
  pub text : string_bytes new.text ≡ string_bytes old.text ++ lines
  pub compared : new.compared ≡ old.compared + how_many is_compared pairs
  pub different : new.different ≡ old.different + how_many is_different pairs
  pub missing : new.missing ≡ old.missing + how_many is_missing pairs

-- nothing so far
pub record FoundNothing (findings : Findings) : Type 0 where
  pub text : string_bytes findings.text ≡ []
  pub compared : findings.compared ≡ 0
  pub different : findings.different ≡ 0
  pub missing : findings.missing ≡ 0

-- the lines of a sample of so many records, and the last line
abbrev pub text_found : Findings → ℕ → List ℕ
text_found findings sampled =
    string_bytes findings.text ++ sums_line sampled findings.compared findings.different findings.missing
