-- How ballots are found, and that hands are read alike by whatever finds them.
use Rattle.std.proofs.Common.{◌≡◌, ◌+◌, ℕ, List, Option, Some, None, take, ap, sym, subst, refl, ◌∙◌}
use Rattle.std.proofs.Math.Path.{fun_ext}
use Rattle.std.specs.Prelude.{bytes_eq, slice_get}
use Rattle.std.specs.Option.{option_map}
use Rattle.std.proofs.lemmas.Option.{slice_get-map, slice_get_within, get_or_from_slice_get}
use Rattle.vx_tally.specs.declared.report.CvrRecord.{CvrRecord}
use Rattle.vx_audit.specs.Finding.{placed}
use Rattle.vx_audit.specs.Hand.{hand_by, record_with}
use Rattle.vx_audit.specs.Laws.{BallotsAreFoundInOrder, HandsAreReadAlike}
use Rattle.vx_audit.proofs.Indexed.{position-more}

pub read_alike : HandsAreReadAlike
read_alike contests one other bytes same = ap (λ (found : List ℕ → Option ℕ). hand_by contests found bytes) (fun_ext same)

same-some : (a b : List ℕ) → ◌≡◌ {A = Option (List ℕ)} (Some a) (Some b) → a ≡ b
same-some a b e = cc

module _ (records : List CvrRecord) (place : ℕ) (unique id : List ℕ) where
  abbrev More : List ℕ → Type 0
  More known = record_with (take (place + 1) records) id ≡ placed known place id (record_with (take place records) id)

  by-record : (o : Option CvrRecord) → slice_get records place ≡ o → option_map (λ (one : CvrRecord). one.unique) o ≡ Some unique → More unique
  by-record None e is = absurd cc
  by-record (Some one) e is =
      subst More (same-some one.unique unique is)
      (position-more (λ (known : CvrRecord). bytes_eq id known.unique) records place one id one.unique (slice_get_within records place one e)
      (sym (get_or_from_slice_get records place one one e)) refl)

pub found_in_order : BallotsAreFoundInOrder
found_in_order records place unique id is =
    by-record records place unique id (slice_get records place) refl
    (sym (slice_get-map (λ (one : CvrRecord). one.unique) records place) ∙ is)
