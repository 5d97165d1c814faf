use Rattle.std.proofs.Common.{ap, sym, arith, subst, []}
use Rattle.atomic_table.specs.Table.{Splits}
use Rattle.ifl_desc.specs.Port.{Ported, Mine, writer_view, reader_view}
use Rattle.ifl_desc.proofs.PortSteps.{opens, divides}
use Rattle.ifl_desc.specs.declared.signals.PortView.{PortView}
use Rattle.ifl_desc.proofs.port.Port.new.Goals as goal

pub of_words-requires : goal.of_words-requires
of_words-requires c = opens

pub split_seat-other-requires : goal.split_seat-other-requires
split_seat-other-requires c = let e = c.in_ok-table.ensures in (
  e.2,
  (let w = e.0 in omega arith),
  subst (λ (v : PortView). Splits Ported c.in_ok-table.seat.id v (writer_view []) (reader_view [])) (sym (ap (λ (m : Mine). m.0) e.4)) (divides c.in_ok-table.seat.id),
)
