use Rattle.vx_scan_model.proofs.laws.laws_below.Goals as goal

pub returns : goal.returns
returns c = record {
  upright = record {
    marks_are = c.timing_marks_are_marks.ensures;
    found = c.borders_are_found.ensures;
    places = c.grid_places_lie_near.ensures;
    windows = c.windows_hold.ensures;
    clear = c.printed_pages_keep_clear.ensures;
    codes = c.planned_pages_can_be_printed.ensures.codes;
    paper = c.planned_pages_can_be_printed.ensures.paper;
    given_back = c.codes_are_given_back.ensures;
    corner = c.a_list_is_followed.ensures.corner;
    grows = c.a_list_is_followed.ensures.grows;
  };
  turned = record {
    chains = c.followed_places_are_chains.ensures;
    at_marks = c.turned_chains_lie_at_marks.ensures;
    windows = c.turned_windows_hold.ensures;
    no_bit = c.no_bit_is_refused.ensures;
  };
}
