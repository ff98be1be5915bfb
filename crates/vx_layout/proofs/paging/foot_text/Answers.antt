use Rattle.std.proofs.Common.{◌≡◌, ◌++◌, List, [], ℕ, get_or, append_assoc, ap, ◌∙◌, ◌<◌, length, arith}
use Rattle.std.specs.Prelude.{codes}
use Rattle.std.specs.String.{string_bytes}
use Rattle.std.specs.declared.string.String.{String}
use Rattle.std.specs.declared.alloc.Global.{Global}
use Rattle.std.specs.Fmt.{decimal}
use Rattle.std.proofs.lemmas.List.{get_or_read}
use Rattle.std.proofs.lemmas.Result.{IfOk-weaker}
use Rattle.vx_election_model.specs.declared.named.Named.{Named}
use Rattle.vx_layout.specs.Plan.{foot_text}
use Rattle.vx_layout.proofs.paging.foot_text.Goals as goal

written : List ℕ → List ℕ → List ℕ → ℕ → ℕ → List ℕ
written title date name page of =
    title ++ (codes " - " ++ (date ++ (codes " - " ++ (name ++ (codes " - page " ++ (decimal page ++ (codes " of " ++ decimal of)))))))

regrouped : (title date name : List ℕ) (page of : ℕ) → written title date name page of ≡ title ++ codes " - " ++ date ++ codes " - " ++ name ++ codes " - page " ++ decimal page ++ codes " of " ++ decimal of
unfolding written
regrouped title date name page of = simp append_assoc

same-text : (title title' date date' name name' : List ℕ) (page of : ℕ) → title ≡ title' → date ≡ date' → name ≡ name' → written title date name page of ≡ written title' date' name' page of
same-text title title' date date' name name' page of t d n =
    ap (λ (xs : List ℕ). written xs date name page of) t
    ∙ ap (λ (xs : List ℕ). written title' xs name page of) d
    ∙ ap (λ (xs : List ℕ). written title' date' xs page of) n

no_name : Named
no_name = record { id = []; name = [] }

pub returns : goal.returns
unfolding written no_name
returns c =
    let election = c.args.election.now in
    let number = c.args.card.precinct in
    let there : number < length c.as_slice.result.now = omega (arith, ap length c.as_slice.ensures, c.requires) in
    let precinct : c.index-as_slice-card.result ≡ get_or election.precincts number no_name =
    get_or_read c.as_slice.result.now number c.index-as_slice-card.result there c.index-as_slice-card.is no_name
    ∙ ap (λ (list : List Named). get_or list number no_name) c.as_slice.ensures in
    IfOk-weaker c.format.result
    (λ (s : String Global). string_bytes s ≡ written c.as_str-title.result.now c.as_str-date.result.now c.as_str-name.result.now c.args.page c.args.of)
    (λ (s : String Global). string_bytes s ≡ foot_text election c.args.card c.args.page c.args.of)
    (λ s h. h
    ∙ same-text c.as_str-title.result.now election.title c.as_str-date.result.now election.date c.as_str-name.result.now (get_or election.precincts number no_name).name
    c.args.page c.args.of c.as_str-title.ensures c.as_str-date.ensures (c.as_str-name.ensures ∙ ap (λ (named : Named). named.name) precinct)
    ∙ regrouped election.title election.date (get_or election.precincts number no_name).name c.args.page c.args.of)
    c.format.ensures.ok
