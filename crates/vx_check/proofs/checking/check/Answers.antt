use Rattle.std.proofs.Common.{Bool, ap, sym, subst, ◌∙◌}
use Rattle.vx_plane.specs.Plane.{Page}
use Rattle.vx_count.specs.Turned.{turned_page, shown_page}
use Rattle.vx_scan_model.specs.Certificate.{CertifiesUpright}
use Rattle.vx_check.proofs.Places.{on-ok}
use Rattle.vx_check.proofs.checking.check.Goals as goal

pub returns-then-not-over-clause-margin : goal.returns-then-not-over-clause-margin
returns-then-not-over-clause-margin c =
    let election = c.args.election.now in
    let page = c.args.counter.now in
    let reading = c.args.reading.now in
    let Certified : Bool → Type 0 = λ over. CertifiesUpright election (shown_page over page) reading in
    on-ok c.check_upright.result (λ ok. c.certificates_say_what_fits.ensures election page reading c.requires.election c.is_a_whole_page.ensures
    (subst Certified (sym c.if-not-over.true) (c.check_upright.ensures.certified.0 ok)))

pub returns-clause-kept : goal.returns-clause-kept
returns-clause-kept c = c.turn-2.ensures ∙ (ap turned_page c.turn.ensures ∙ c.turned_twice_is_as_before.ensures c.args.counter.now c.is_a_whole_page.ensures)

pub returns-clause-margin : goal.returns-clause-margin
returns-clause-margin c =
    let election = c.args.election.now in
    let page = c.args.counter.now in
    let reading = c.args.reading.now in
    let Certified : Bool → Type 0 = λ over. CertifiesUpright election (shown_page over page) reading in
    on-ok c.check_upright-answer.result (λ ok. c.certificates_say_what_fits.ensures election page reading c.requires.election c.is_a_whole_page.ensures
    (subst Certified (sym c.if-not-over.false) (subst (λ (q : Page). CertifiesUpright election q reading) c.turn.ensures (c.check_upright-answer.ensures.certified.0 ok))))
