use Rattle.std.proofs.Common.{Some, ap, subst, sym}
use Rattle.std.proofs.lemmas.Bool.{false≢true}
use Rattle.vx_command.specs.Done.{Held, IsDone}
use Rattle.vx_command.specs.Status.{answer_of}
use Rattle.vx_command_center.specs.Outcome.{center_outcome}
use Rattle.vx_command_center.specs.Runs.{Centers}
use Rattle.vx_words.specs.declared.command.Command.TheVariants.{Center}
use Rattle.vx_app.proofs.Calls.{is-run}
use Rattle.vx_app.proofs.Journals.{kept-over}
use Rattle.vx_app.proofs.centering.run_center.Goals as goal

pub returns-clause-journal_kept : goal.returns-clause-journal_kept
returns-clause-journal_kept g c files told name moment device items spells election for_it records held events is =
    let taken = g.S.Sink.taken c.args.out.now in
    let taken_now = g.S.Sink.taken c.center_words.new.out in
    let held_now = g.K.Keeper.held c.center_words.new.keeper in
    let answer = answer_of c.center_words.result in
    let Done : Held → Type 0 = λ before. Centers name moment device items files records taken taken_now before held_now answer in
    kept-over c.count_keeps_journals.ensures c.decide_keeps_journals.ensures c.center_keeps_journals.ensures c.journals_stay.ensures c.fronts_are_journals.ensures
    (Center name moment device items) spells.device files election records events taken taken_now held_now answer
    spells.sound for_it is (λ still. absurd (false≢true (sym still)))
    (subst Done held (c.center_words.ensures.done files told name moment device items spells records held))

pub returns-clause-a_run : goal.returns-clause-a_run
returns-clause-a_run g c files told name moment device items spells election for_it records held =
    let taken = g.S.Sink.taken c.args.out.now in
    let taken_now = g.S.Sink.taken c.center_words.new.out in
    let held_now = g.K.Keeper.held c.center_words.new.keeper in
    let answer = answer_of c.center_words.result in
    let Done : Held → Type 0 = λ before. Centers name moment device items files records taken taken_now before held_now answer in
    is-run election records c.args.words.now (Center name moment device items) files taken taken_now held_now answer spells for_it
    (λ still. absurd (false≢true (sym still)))
    (subst Done held (c.center_words.ensures.done files told name moment device items spells records held))

pub returns-clause-reported : goal.returns-clause-reported
returns-clause-reported g c files told election moment device items spells records held is =
    let taken = g.S.Sink.taken c.args.out.now in
    let taken_now = g.S.Sink.taken c.center_words.new.out in
    let held_now = g.K.Keeper.held c.center_words.new.keeper in
    let answer = answer_of c.center_words.result in
    let centers = c.center_words.ensures.done files told election moment device items spells records held in
    let Done : Held → Type 0 = λ before. IsDone (center_outcome election moment device items files records centers.history) taken taken_now before held_now answer in
    c.center_reports_what_is_kept.ensures election moment device items files records centers.history taken taken_now held_now answer
    spells.sound.are_items (λ given named kept are replays are_taken. centers.of_items given kept are named replays are_taken)
    (subst Done held centers.done) (ap answer_of is)

pub returns-clause-margin_of_center : goal.returns-clause-margin_of_center
returns-clause-margin_of_center g c files told election moment device items spells =
    c.fitting_sheets_are_in_their_items.ensures election items files
