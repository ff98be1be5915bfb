use Rattle.std.proofs.Common.{◌≡◌, ◌∙◌, ap, sym, get_or, false, subst, Bool, List, ℕ, Some, None, take, ◌+◌}
use Rattle.std.specs.Prelude.{string_bytes, option_copied, slice_get}
use Rattle.vx_audit.proofs.Joined.{IsJoined, id-joined, none-joined}
use Rattle.vx_audit.proofs.marks.listed_text.Goals.{in-Some+in_ok-push_word, in_default}
use Rattle.vx_audit.proofs.marks.listed_text.Goals as goal

pub loop-place-preserved : goal.loop-place-preserved
loop-place-preserved c =
    let ids = c.args.ids.now in
    let places = c.args.places.now in
    let i = c.loop-place.place-index in
    elim c.match-id_at.branch [
      | in-Some+in_ok-push_word w ↦
          let is : slice_get ids (get_or places i 0) ≡ Some w.as_str.result.now =
          sym c.id_at.ensures ∙ ap option_copied w.in-Some.is ∙ ap Some (sym w.as_str.ensures) in
          let now = id-joined ids places i c.loop-place-test.true (string_bytes c.loop-place.text) (string_bytes w.push_word.new.text) c.loop-place.first
          c.loop-place.invariant w.as_str.result.now is w.in_ok-push_word.ensures in
          subst (λ (first : Bool). IsJoined ids (take (i + 1) places) (string_bytes c.match-id_at.text) first) (sym w.first-is)
          (subst (λ (bytes : List ℕ). IsJoined ids (take (i + 1) places) bytes false) (ap string_bytes (sym w.text-is)) now)
      | in_default w ↦
          let is : slice_get ids (get_or places i 0) ≡ None = sym c.id_at.ensures ∙ ap option_copied w.in_default.is in
          let now = none-joined ids places i c.loop-place-test.true (string_bytes c.loop-place.text) (string_bytes c.match-id_at.text) c.loop-place.first
          c.loop-place.invariant is (ap string_bytes w.text-is) in
          subst (λ (first : Bool). IsJoined ids (take (i + 1) places) (string_bytes c.match-id_at.text) first) (sym w.first-is) now
    ]
