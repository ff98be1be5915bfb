use Rattle.vx_board.proofs.Sample.{the_sample}
use Rattle.vx_board.proofs.laws.ballots_are_the_sample.Goals as goal

pub returns : goal.returns
returns c =
    the_sample c.rows_are_of_the_sheets.ensures c.each_row_is_of_a_sheet.ensures c.one_row_of_a_key.ensures
    c.sheets_have_own_places.ensures c.same_keys_are_equal.ensures
