use Rattle.vx_desk.proofs.data.are_kept.Goals as goal

pub read_sheet-requires-clause-shown : goal.read_sheet-requires-clause-shown
read_sheet-requires-clause-shown c = λ card plan planned. record {
  options = (c.plans_show_each_option.ensures c.args.election.now card plan c.requires.valid planned).0;
  pages = (c.plans_show_each_option.ensures c.args.election.now card plan c.requires.valid planned).1;
}
