-- Scripts and scans as they are taken.
use Rattle.std.proofs.Common.{◌≡◌, ℕ, ◌+◌, List, ◌++◌, length, Result, Ok, Err, refl, sym, ap, subst, append_assoc, arith}
use Rattle.vx_base.specs.Results.{◌>>=◌}
use Rattle.vx_events.specs.declared.event.Event.{Event}
use Rattle.vx_pbm.specs.Images.{Images, Unread, images_left, images_of, whole}
use Rattle.vx_command.specs.declared.halt.Halt.{Halt}

-- the events of lines, behind others
abbrev pub behind : List Event → Result (List Event) Halt → Result (List Event) Halt
behind events more = more >>= (λ others. Ok (events ++ others))

behind_twice : (events said : List Event) (more : Result (List Event) Halt) → behind events (behind said more) ≡ behind (events ++ said) more
behind_twice events said (Ok others) = ap Ok (sym (append_assoc events said others))
behind_twice events said (Err cause) = refl

-- the images of a scan are so many, and those that are left
pub record CountsUpTo (bytes : List ℕ) (count : ℕ) (left : Images) : Type 0 where
  pub pages : length (images_of bytes).pages ≡ count + length left.pages
  pub fault : (images_of bytes).fault ≡ left.fault

pub counts_none : (bytes : List ℕ) (unread : Unread) → unread ≡ whole bytes → CountsUpTo bytes 0 (images_left unread)
unfolding images_of
counts_none bytes unread new =
    let Up : Unread → Type 0 = λ u. CountsUpTo bytes 0 (images_left u) in
    let same : length (images_of bytes).pages ≡ length (images_left (whole bytes)).pages = refl in
    subst Up (sym new) (record { pages = omega (arith, same); fault = refl })
