use Rattle.std.proofs.Common.{◌<◌, ◌≤◌, ◌-◌, List, length, get_or, ap, ◌∙◌, sym, arith}
use Rattle.vx_layout.specs.declared.pages.PagePlan.{PagePlan}
use Rattle.vx_layout.specs.declared.plan.CardPlan.{CardPlan}
use Rattle.vx_scan_model.specs.Named.{plan_unless}
use Rattle.vx_scan_model.proofs.Plans.{named-other, named-no_card, named-on_card_plan, numbered-zero, numbered-past, numbered-there}
use Rattle.vx_scan_model.proofs.named.find_plan.Goals as goal

pub returns-then-code-tag_of : goal.returns-then-code-tag_of
returns-then-code-tag_of c =
    named-other c.args.election.now c.args.code (λ h. c.if-code-tag_of.true (h ∙ sym c.tag_of.ensures.exact))

pub returns-in_default : goal.returns-in_default
returns-in_default c =
    named-no_card c.args.election.now c.args.plans.now c.args.code c.requires (c.if-code-tag_of.false ∙ c.tag_of.ensures.exact)
    (omega (arith, c.in_default.ensures.lookup.3, ap length c.as_slice.ensures))

pub returns-then-code-eq0 : goal.returns-then-code-eq0
returns-then-code-eq0 c =
    let code = c.args.code in
    let card = c.in-Some.card.now in
    let there : code.card < length c.args.plans.now = omega (arith, c.in-Some.ensures.lookup.3.0, ap length c.as_slice.ensures) in
    let is = c.in-Some.ensures.lookup.1 ∙ ap (λ (plans : List CardPlan). get_or plans code.card card) c.as_slice.ensures in
    named-on_card_plan c.args.election.now c.args.plans.now code card c.requires (c.if-code-tag_of.false ∙ c.tag_of.ensures.exact) there is
    ∙ ap (plan_unless code.page) (numbered-zero card code.page c.if-code-eq0.true)

pub returns-in-Some-get : goal.returns-in-Some-get
returns-in-Some-get c =
    let code = c.args.code in
    let card = c.in-Some.card.now in
    let plan = c.in-Some-get.plan.now in
    let there : code.card < length c.args.plans.now = omega (arith, c.in-Some.ensures.lookup.3.0, ap length c.as_slice.ensures) in
    let is = c.in-Some.ensures.lookup.1 ∙ ap (λ (plans : List CardPlan). get_or plans code.card card) c.as_slice.ensures in
    let on : code.page - 1 < length card.pages = omega (arith, c.in-Some-get.ensures.lookup.3.0, ap length c.as_slice-2.ensures) in
    let page_is = c.in-Some-get.ensures.lookup.1 ∙ ap (λ (pages : List PagePlan). get_or pages (code.page - 1) plan) c.as_slice-2.ensures in
    named-on_card_plan c.args.election.now c.args.plans.now code card c.requires (c.if-code-tag_of.false ∙ c.tag_of.ensures.exact) there is
    ∙ ap (plan_unless code.page) (numbered-there card code.page plan c.if-code-eq0.false on page_is)

pub returns-in-None : goal.returns-in-None
returns-in-None c =
    let code = c.args.code in
    let card = c.in-Some.card.now in
    let there : code.card < length c.args.plans.now = omega (arith, c.in-Some.ensures.lookup.3.0, ap length c.as_slice.ensures) in
    let is = c.in-Some.ensures.lookup.1 ∙ ap (λ (plans : List CardPlan). get_or plans code.card card) c.as_slice.ensures in
    let past : length card.pages ≤ code.page - 1 = omega (arith, c.in-None.ensures.lookup.3, ap length c.as_slice-2.ensures) in
    named-on_card_plan c.args.election.now c.args.plans.now code card c.requires (c.if-code-tag_of.false ∙ c.tag_of.ensures.exact) there is
    ∙ ap (plan_unless code.page) (numbered-past card code.page c.if-code-eq0.false past)
