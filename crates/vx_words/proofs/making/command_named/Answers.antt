use Rattle.vx_words.proofs.making.command_named.Goals as goal

pub returns-in-Print : goal.returns-in-Print
returns-in-Print c = rw c.in-Print.is c.print_of.ensures

pub returns-in-Read : goal.returns-in-Read
returns-in-Read c = rw c.in-Read.is c.read_of.ensures

pub returns-in-Check : goal.returns-in-Check
returns-in-Check c = rw c.in-Check.is c.check_of.ensures

pub returns-in-Count : goal.returns-in-Count
returns-in-Count c = rw c.in-Count.is c.count_of.ensures

pub returns-in-Decide : goal.returns-in-Decide
returns-in-Decide c = rw c.in-Decide.is c.decide_of.ensures

pub returns-in-Queue : goal.returns-in-Queue
returns-in-Queue c = rw c.in-Queue.is c.queue_of.ensures

pub returns-in-Export : goal.returns-in-Export
returns-in-Export c = rw c.in-Export.is c.export_of.ensures

pub returns-in-Demo : goal.returns-in-Demo
returns-in-Demo c = rw c.in-Demo.is c.demo_of.ensures

pub returns-in-Center : goal.returns-in-Center
returns-in-Center c = rw c.in-Center.is c.center_of.ensures

pub returns-in-Try : goal.returns-in-Try
returns-in-Try c = rw c.in-Try.is c.try_of.ensures

pub returns-in-Cards : goal.returns-in-Cards
returns-in-Cards c = rw c.in-Cards.is c.cards_of.ensures

pub returns-in-Results : goal.returns-in-Results
returns-in-Results c = rw c.in-Results.is c.results_of.ensures

pub returns-in-Sample : goal.returns-in-Sample
returns-in-Sample c = rw c.in-Sample.is c.sample_of.ensures

pub returns-in-Desk : goal.returns-in-Desk
returns-in-Desk c = rw c.in-Desk.is c.desk_of.ensures

pub returns-in-Summary : goal.returns-in-Summary
returns-in-Summary c = rw c.in-Summary.is c.summary_of.ensures

pub returns-in-Board : goal.returns-in-Board
returns-in-Board c = rw c.in-Board.is c.board_of.ensures

pub returns-in-Risk : goal.returns-in-Risk
returns-in-Risk c = rw c.in-Risk.is c.risk_of.ensures
