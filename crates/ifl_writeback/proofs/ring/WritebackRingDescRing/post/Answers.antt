use Rattle.std.proofs.Common.{◌<◌, ap, sym, subst, List}
use Rattle.ifl_desc.specs.declared.desc.Desc.{Desc}
use Rattle.ifl_desc.specs.Frames.{open_after}
use Rattle.ifl_desc.proofs.DriverCalls.{driver_lawful, posts_ok, room_is}
use Rattle.ifl_writeback.proofs.ring.WritebackRingDescRing.post.Goals as goal

pub invariant_of-end : goal.invariant_of-end
invariant_of-end c = let h = c.end.inside.rack in let k = c.end.invariant in let v = c.end.view_is in let n = c.place.ensures.counts in
    posts_ok h c.place.new.self c.args.d k (subst (λ (z : List Desc). open_after 0 z < 64) (sym (ap (λ z. z.pending) v)) c.requires.short) (room_is h k c.args.end.now v c.requires.room)
    c.place.ensures.rack c.place.ensures.seat c.place.ensures.placed n.0 n.1 n.2 n.4

pub returns-clause-lawful : goal.returns-clause-lawful
returns-clause-lawful c = driver_lawful c.place.new.self (invariant_of-end c)
