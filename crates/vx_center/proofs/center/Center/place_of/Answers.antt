use Rattle.std.proofs.Common.{◌≡◌, ◌<◌, ◌∙◌, ap, sym, subst, arith, length, None}
use Rattle.std.specs.Prelude.{position, IfNone}
use Rattle.std.specs.Map.{keys_of}
use Rattle.vx_events.specs.declared.key.Key.{Key}
use Rattle.vx_center.specs.Kept.{Kept}
use Rattle.vx_center.specs.Sheets.{key_of, place_in}
use Rattle.vx_center.specs.States.{IsUnknown}
use Rattle.vx_center.specs.declared.name.SheetName.{SheetName}
use Rattle.vx_center.proofs.Finding.{same_name, place-named, long-key, high-key, unknown, answers-unknown}
use Rattle.vx_center.proofs.center.Center.place_of.Goals as goal

pub returns-then-batch-gt32-clause-place : goal.returns-then-batch-gt32-clause-place
returns-then-batch-gt32-clause-place c =
    let key : Key = key_of c.args.batch.now c.args.number in
    let inside = c.self.inside in
    let long : 32 < length key.batch = c.if-batch-gt32.true in
    subst (λ (k : Kept). None ≡ place_in k.events key) c.self.view_is (sym (long-key inside.election.now inside.events inside.sheets.entries c.self.invariant key long))

pub returns-then-batch-gt32-clause-unknown : goal.returns-then-batch-gt32-clause-unknown
returns-then-batch-gt32-clause-unknown c =
    let key : Key = key_of c.args.batch.now c.args.number in
    let inside = c.self.inside in
    let long : 32 < length key.batch = c.if-batch-gt32.true in
    subst (λ (k : Kept). IsUnknown k.events key) c.self.view_is
    (unknown inside.election.now inside.events inside.sheets.entries key c.self.invariant (long-key inside.election.now inside.events inside.sheets.entries c.self.invariant key long))

pub returns-then-number-gt999999-clause-place : goal.returns-then-number-gt999999-clause-place
returns-then-number-gt999999-clause-place c =
    let key : Key = key_of c.args.batch.now c.args.number in
    let inside = c.self.inside in
    subst (λ (k : Kept). None ≡ place_in k.events key) c.self.view_is
    (sym (high-key inside.election.now inside.events inside.sheets.entries c.self.invariant key c.if-number-gt999999.true))

pub returns-then-number-gt999999-clause-unknown : goal.returns-then-number-gt999999-clause-unknown
returns-then-number-gt999999-clause-unknown c =
    let key : Key = key_of c.args.batch.now c.args.number in
    let inside = c.self.inside in
    subst (λ (k : Kept). IsUnknown k.events key) c.self.view_is
    (unknown inside.election.now inside.events inside.sheets.entries key c.self.invariant
    (high-key inside.election.now inside.events inside.sheets.entries c.self.invariant key c.if-number-gt999999.true))

pub returns-clause-place : goal.returns-clause-place
returns-clause-place c =
    let key : Key = key_of c.args.batch.now c.args.number in
    let inside = c.self.inside in
    let named = c.get_index_of.ensures.index ∙ ap (λ (name : SheetName). position (same_name name) (keys_of inside.sheets.entries)) c.new.ensures in
    subst (λ (k : Kept). c.get_index_of.result ≡ place_in k.events key) c.self.view_is
    (named ∙ place-named inside.election.now inside.events inside.sheets.entries c.self.invariant key)

pub returns-clause-unknown : goal.returns-clause-unknown
returns-clause-unknown c =
    let key : Key = key_of c.args.batch.now c.args.number in
    let inside = c.self.inside in
    let named = c.get_index_of.ensures.index ∙ ap (λ (name : SheetName). position (same_name name) (keys_of inside.sheets.entries)) c.new.ensures in
    subst (λ (k : Kept). IfNone c.get_index_of.result (IsUnknown k.events key)) c.self.view_is
    (answers-unknown inside.election.now inside.events inside.sheets.entries key c.self.invariant c.get_index_of.result
    (named ∙ place-named inside.election.now inside.events inside.sheets.entries c.self.invariant key))
