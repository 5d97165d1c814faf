-- What a sender has room for before it begins.
use Rattle.std.specs.Prelude.{◌≡◌, ◌≤◌, List, [], length, vec_capacity}
use Rattle.std.specs.VecDeque.{deque_capacity}
use Rattle.ifl_pcap.specs.declared.frame.Frame.{Frame}
use Rattle.ifl_line.specs.declared.sender.Sender.{Sender}

-- no line yet, but room for one of each of so many frames, and room for one item
pub record IsReady (frames : List Frame) (x : Sender) : Type 0 where
  pub empty : x.items.items ≡ []
  pub one : 1 ≤ deque_capacity x.items
  pub none : x.away.items ≡ []
  pub lines : length frames ≤ vec_capacity x.away
  pub few : length frames ≤ 1000000
