use Rattle.vx_headline.proofs.Counted.{CountLaws}
use Rattle.vx_headline.proofs.Exported.{exports}
use Rattle.vx_headline.proofs.laws.marked_pages_are_exported.Goals as goal

pub returns : goal.returns
returns c =
    let laws : CountLaws = record {
      valid = c.taken_elections_are_valid.ensures;
      whole = c.scanned_images_are_whole.ensures;
      read = c.fitting_sheets_are_read.ensures;
      kept = c.fitting_sheets_are_kept.ensures;
      says = c.marked_sheets_say_each_mark.ensures;
      keepable = c.sheet_events_are_keepable.ensures;
      records = c.records_are_read.ensures;
      images = c.images_are_whole.ensures;
      adds = c.fitting_sheets_are_in_their_items.ensures;
      histories = c.journals_are_histories.ensures;
      fronts = c.fronts_are_journals.ensures;
      events = c.records_are_events.ensures;
      mixed = c.interleavings_are_whole.ensures;
      firsts = c.first_adds_are_done.ensures;
      leaves = c.records_in_order.ensures;
      history = c.centers_keep_their_history.ensures;
      items = c.scans_are_items.ensures;
      ends = c.counts_end_well.ensures;
      more = c.runs_add_records.ensures;
      alone = c.added_sheets_are_alone.ensures;
      stay = c.found_sheets_stay.ensures;
      equal_keys = c.same_keys_are_equal.ensures;
      one_row = c.one_row_of_a_key.ensures;
      row_added = c.each_row_is_of_a_sheet.ensures;
    } in
    exports laws c.exports_write_what_was_kept.ensures c.count_keeps_journals.ensures c.journals_stay.ensures
