use Rattle.std.proofs.Common.{◌≡◌, ◌∙◌, ap, sym, List, Some, ℕ, ◌<◌, length, arith}
use Rattle.std.specs.Prelude.{slice_get}
use Rattle.std.proofs.lemmas.Option.{slice_get-get_or}
use Rattle.vx_audit.specs.declared.hand.HandLine.{HandLine}
use Rattle.vx_audit.specs.Hand.{is_for}
use Rattle.vx_audit.specs.Pairs.{line_for}
use Rattle.vx_audit.proofs.LinePlaces.{none-position, at-position}
use Rattle.vx_audit.proofs.hand.Hand.line.Goals as goal

pub index-requires : goal.index-requires
index-requires c =
    let key : ℕ × ℕ = (c.args.ballot, c.args.contest) in
    let at = at-position (is_for key.0 key.1) 0 c.self.inside.lines.items c.in-Some.place.now (sym (c.self.invariant.at key) ∙ sym c.in-Some.ensures.value) in
    omega (arith, at.1, at.2, c.self.inside.lines.ok)

pub returns-in-None : goal.returns-in-None
returns-in-None c =
    let key : ℕ × ℕ = (c.args.ballot, c.args.contest) in
    sym (none-position (is_for key.0 key.1) 0 c.self.inside.lines.items (sym (c.self.invariant.at key) ∙ sym c.in-None.ensures.value))
    ∙ ap (λ (lines : List HandLine). line_for lines key.0 key.1) c.self.view_is

pub returns-in-Some : goal.returns-in-Some
returns-in-Some c =
    let key : ℕ × ℕ = (c.args.ballot, c.args.contest) in
    let lines = c.self.inside.lines.items in
    let at = at-position (is_for key.0 key.1) 0 lines c.in-Some.place.now (sym (c.self.invariant.at key) ∙ sym c.in-Some.ensures.value) in
    let same : c.in-Some.place.now ≡ at.0 = omega (arith, at.1) in
    let inside : c.in-Some.place.now < length lines = omega (arith, at.1, at.2) in
    let found : slice_get lines c.in-Some.place.now ≡ Some c.index.result.now =
    slice_get-get_or lines c.in-Some.place.now c.index.result.now inside ∙ ap Some (sym c.index.ensures) in
    sym found ∙ ap (slice_get lines) same ∙ sym at.3 ∙ ap (λ (lines : List HandLine). line_for lines key.0 key.1) c.self.view_is
