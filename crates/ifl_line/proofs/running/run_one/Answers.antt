use Rattle.std.proofs.Common.{refl, ap, arith}
use Rattle.ifl_ring.specs.declared.view.Known.{Known}
use Rattle.ifl_line.proofs.Joining.{handled_sent}
use Rattle.ifl_line.proofs.running.run_one.Goals as goal

pub returns : goal.returns
returns g c = let few = c.requires.ready.few in let h = c.send.ensures.handled in record {
  capture = refl;
  number = c.send.ensures.number;
  of = c.send.ensures.own;
  parts = record { ring_part = ap (λ (z : Known). z.part) h.stepped.is; turn_part = c.send.ensures.part; pass_part = h.rises.part };
  sent = handled_sent _ _ _ _ _ _ _ _ _ c.requires.fresh.silent c.requires.fresh.none (omega arith) h;
}
