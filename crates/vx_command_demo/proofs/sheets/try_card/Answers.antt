use Rattle.std.proofs.Common.{◌≡◌, ◌∷◌, [], List, ap, sym, subst, ◌∙◌, arith}
use Rattle.std.specs.Prelude.{IfOk, OnOk}
use Rattle.std.proofs.lemmas.Result.{IfOk-weaker}
use Rattle.rand_pcg.specs.Lcg.{Lcg}
use Rattle.vx_command_demo.specs.declared.counted.Counted.{Counted}
use Rattle.vx_command_demo.specs.Adding.{IsCounted, counted_of}
use Rattle.vx_command_demo.specs.Trials.{Trial}
use Rattle.vx_command_demo.proofs.Tried.{none-tried, some-tried}
use Rattle.vx_command_demo.proofs.Within.{nothing-counted}
use Rattle.vx_command_demo.proofs.sheets.try_card.Goals as goal

pub try_pages-requires-clause-front : goal.try_pages-requires-clause-front
try_pages-requires-clause-front g c = λ κs lives. c.in-Some.ensures.front_planned

pub try_pages-requires-clause-back : goal.try_pages-requires-clause-back
try_pages-requires-clause-back g c = λ κs lives. c.in-Some.ensures.back_planned

pub returns-in-Some-clause-counted : goal.returns-in-Some-clause-counted
returns-in-Some-clause-counted g c =
    let Are : List Trial × Lcg → Type 0 = λ drawn. IfOk c.try_pages.result (λ counted. counted ≡ counted_of c.args.election.now (drawn.0 ∷ [])) in
    subst Are (some-tried c.args.election.now c.args.plans.now c.args.card c.in-Some.front.now c.in-Some.back.now c.args.rng.now c.in-Some.ensures.pages) c.try_pages.ensures.counted

pub returns-in-Some-clause-few : goal.returns-in-Some-clause-few
returns-in-Some-clause-few g c = IfOk-weaker c.try_pages.result _ _ (λ counted two. omega (arith, two)) c.try_pages.ensures.two

pub returns-in-Some-clause-next : goal.returns-in-Some-clause-next
returns-in-Some-clause-next g c =
    let Next : List Trial × Lcg → Type 0 = λ drawn. OnOk c.try_pages.result (c.try_pages.new.rng ≡ drawn.1) in
    subst Next (some-tried c.args.election.now c.args.plans.now c.args.card c.in-Some.front.now c.in-Some.back.now c.args.rng.now c.in-Some.ensures.pages) c.try_pages.ensures.next

pub returns-in-None-clause-counted : goal.returns-in-None-clause-counted
returns-in-None-clause-counted g c =
    c.nothing.ensures ∙ (none-tried c.args.election.now c.args.plans.now c.args.card c.args.rng.now c.in-None.ensures).0

pub returns-in-None-clause-within : goal.returns-in-None-clause-within
returns-in-None-clause-within g c = subst IsCounted (sym c.nothing.ensures) nothing-counted

pub returns-in-None-clause-few : goal.returns-in-None-clause-few
returns-in-None-clause-few g c = omega (arith, ap (λ (n : Counted). n.pages.pages) c.nothing.ensures)

pub returns-in-None-clause-next : goal.returns-in-None-clause-next
returns-in-None-clause-next g c =
    (none-tried c.args.election.now c.args.plans.now c.args.card c.args.rng.now c.in-None.ensures).1
