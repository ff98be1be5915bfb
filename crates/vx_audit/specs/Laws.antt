-- What holds of what hands have read.
use Rattle.std.specs.Prelude.{◌≡◌, ℕ, ◌+◌, List, map, take, slice_get, Option, Some}
use Rattle.vx_tally.specs.declared.report.CvrRecord.{CvrRecord}
use Rattle.vx_tally.specs.declared.report.ReportContest.{ReportContest}
use Rattle.vx_audit.specs.Finding.{placed}
use Rattle.vx_audit.specs.Hand.{hand_by, record_with}

-- what hands have read is the same where each ballot is found at the same place
abbrev pub HandsAreReadAlike : Type 0
HandsAreReadAlike =
    (contests : List ReportContest) (one other : List ℕ → Option ℕ) (bytes : List ℕ)
    → ((id : List ℕ) → one id ≡ other id) → hand_by contests one bytes ≡ hand_by contests other bytes

-- a ballot is found among records as far as one by putting the id of that one behind those before it
abbrev pub BallotsAreFoundInOrder : Type 0
BallotsAreFoundInOrder =
    (records : List CvrRecord) (place : ℕ) (unique id : List ℕ)
    → slice_get (map (λ (one : CvrRecord). one.unique) records) place ≡ Some unique
    → record_with (take (place + 1) records) id ≡ placed unique place id (record_with (take place records) id)
