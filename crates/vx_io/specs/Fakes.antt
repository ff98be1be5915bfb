-- The outside in memory: what each holds, which of its calls fail, and what a call leaves.
use Rattle.std.specs.Prelude.{◌+◌, ◌-◌, ◌^◌, ◌==◌, ℕ, Bool, false, List, [], ◌∷◌, Option, None, Some, min, nat_lt, if◌then◌else◌}
use Rattle.std.specs.List.{list_any}
use Rattle.std.specs.Str.{bytes_eq}
use Rattle.vx_io.specs.declared.tally.Tally.{Tally}
use Rattle.vx_io.specs.Outside.{Files}

-- a count one higher, which stands still at its last value
abbrev pub raised : ℕ → ℕ
raised count = min (count + 1) (2 ^ 64 - 1)

-- no call yet
abbrev pub no_calls : Tally
no_calls = record { calls = 0; faults = 0 }

-- a call more, which failed or didn't
abbrev pub counted : Tally → Bool → Tally
counted tally failed =
    record { calls = raised tally.calls; faults = if failed then raised tally.faults else tally.faults }

-- the number of the call that comes, from 1 on; none once the count of calls stands still
abbrev pub number_of_next : Tally → Option ℕ
number_of_next tally = if nat_lt tally.calls (2 ^ 64 - 1) then Some (tally.calls + 1) else None

-- a number, where there is one, is in the list
abbrev pub is_among : List ℕ → Option ℕ → Bool
is_among fails None = false
is_among fails (Some number) = list_any (λ call. call == number) fails

-- the call that comes is in the list
abbrev pub is_listed : List ℕ → Tally → Bool
is_listed fails tally = is_among fails (number_of_next tally)

-- what stands beside the first key that passes a test
abbrev pub lookup : {K X : Type 0} → (K → Bool) → List (K × X) → Option X
lookup test [] = None
lookup test (entry ∷ rest) = if test entry.0 then Some entry.1 else lookup test rest

-- what the list says of a number, where there is one
abbrev pub kept_at : List (ℕ × Bool) → Option ℕ → Option Bool
kept_at fails None = None
kept_at fails (Some number) = lookup (λ call. call == number) fails

-- whether an append that comes keeps its record, where it is to fail
abbrev pub kept_of_next : List (ℕ × Bool) → Tally → Option Bool
kept_of_next fails tally = kept_at fails (number_of_next tally)

-- the bytes of the first pair with each name
abbrev pub files_of : List (List ℕ × List ℕ) → Files
files_of files name = lookup (λ other. bytes_eq other name) files

-- inputs in memory
pub record HeldInputs : Type 0 where
  pub files : List (List ℕ × List ℕ)
  pub fails : List ℕ
  pub tally : Tally

-- a sink in memory
pub record HeldSink : Type 0 where
  pub taken : List ℕ
  pub room : ℕ
  pub fails : List ℕ
  pub tally : Tally

-- a keeper in memory
pub record HeldKeeper : Type 0 where
  pub records : List (List ℕ)
  pub fails : List (ℕ × Bool)
  pub tally : Tally
