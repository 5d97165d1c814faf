-- A good report: what it says of the settings and of the captures of its run.
use Rattle.std.specs.Prelude.{◌≡◌, ℕ, Bool, true, false, List, Option, Some, None}
use Rattle.ifl_conf.specs.declared.choices.AdapterKind.TheVariants as kind
use Rattle.ifl_conf.specs.declared.choices.Policy.TheVariants as policy
use Rattle.ifl_conf.specs.declared.choices.Start.TheVariants as start
use Rattle.ifl_conf.specs.declared.keys.KeyName.TheVariants.{RingSize, RingBudget, RingAbdicate, AdapterKind, AdapterDescriptors, AdapterMaxSegs, AdapterDoorbellEvery, AdapterTurnFrames, AdapterStart, AdapterHangAfter, AdapterLinkDownAfter, AdapterLinkDownTurns, FramesMaxFrame, FramesPolicy, PoolClusters, PoolSegBytes, StopMode, StopAfter}
use Rattle.ifl_conf.specs.declared.choices.StopMode.TheVariants as mode
use Rattle.ifl_conf.specs.Choices.{kind_text, mode_text, policy_text, start_text}
use Rattle.ifl_conf.specs.Keys.{flag, number, word}
use Rattle.ifl_desc.specs.Closed.{ClosedSees}
use Rattle.ifl_device.specs.declared.plan.EnginePlan.{EnginePlan}
use Rattle.ifl_pcap.specs.declared.frame.Frame.{Frame}
use Rattle.ifl_pool.specs.Pools.{ClosedState as ClosedPool}
use Rattle.ifl_ring.specs.Closed.{ClosedState as ClosedRing}
use Rattle.ifl_ringcore.specs.declared.counters.Counters.{Counters}
use Rattle.ifl_txq.specs.declared.item.Item.{Item}
use Rattle.ifl_txq.specs.declared.line.OrderLine.{OrderLine}
use Rattle.ifl_line.specs.declared.away_line.AwayLine.{AwayLine}
use Rattle.ifl_line.specs.declared.rules.Policy.{Policy}
use Rattle.ifl_line.specs.declared.rules.Policy.TheVariants.{Retry, Drop}
use Rattle.ifl_line.specs.declared.rules.Rules.{Rules}
use Rattle.ifl_line.specs.declared.sizes.Sizes.{Sizes}
use Rattle.ifl_line.specs.Causes.{AreOfLength, FollowsPlan}
use Rattle.ifl_line.specs.Good.{IsAdapterOf, IsLawful, IsPoolOf, IsRingOf}
use Rattle.ifl_line.specs.Steps.{packets}
use Rattle.ifl_engine.specs.declared.report.ClosedLine.{ClosedLine}
use Rattle.ifl_engine.specs.declared.report.ClosedLine.TheVariants as closed
use Rattle.ifl_engine.specs.declared.report.Plain.{Plain}
use Rattle.ifl_engine.specs.declared.report.Report.{Report}
use Rattle.ifl_engine.specs.Counts.{counts_of}
use Rattle.ifl_engine.specs.Loading.{Chosen}

-- ---- what the settings choose

-- how large the parts of the run are
pub record AreSizesBy (set : Chosen) (z : Sizes) : Type 0 where
  pub ring : set RingSize ≡ Some (number z.ring)
  pub clusters : set PoolClusters ≡ Some (number z.clusters)
  pub descriptors : set AdapterDescriptors ≡ Some (number z.descriptors)
  pub max_segs : set AdapterMaxSegs ≡ Some (number z.max_segs)
  pub doorbell_every : set AdapterDoorbellEvery ≡ Some (number z.doorbell_every)

abbrev pub policy_chosen : Policy → List ℕ
policy_chosen Retry = policy_text policy.Retry
policy_chosen Drop = policy_text policy.Drop

abbrev pub start_chosen : Bool → List ℕ
start_chosen true = start_text start.AfterSenders
start_chosen false = start_text start.AtOnce

-- how frames are sent
pub record AreRulesBy (set : Chosen) (r : Rules) : Type 0 where
  pub max_frame : set FramesMaxFrame ≡ Some (number r.max_frame)
  pub seg_bytes : set PoolSegBytes ≡ Some (number r.seg_bytes)
  pub budget : set RingBudget ≡ Some (number r.budget)
  pub abdicate : set RingAbdicate ≡ Some (flag r.abdicate)
  pub policy : set FramesPolicy ≡ Some (word (policy_chosen r.policy))
  pub turn_frames : set AdapterTurnFrames ≡ Some (number r.turn_frames)
  pub start : set AdapterStart ≡ Some (word (start_chosen r.after_senders))

abbrev pub mode_chosen : Option ℕ → List ℕ
mode_chosen None = mode_text mode.Drain
mode_chosen (Some n) = mode_text mode.Flush

-- when the engine hangs, loses its link and is stopped, by its plan alone
pub record IsPlanBy (set : Chosen) (p : EnginePlan) : Type 0 where
  pub hang_after : set AdapterHangAfter ≡ Some (number p.hang_after)
  pub link_down_after : set AdapterLinkDownAfter ≡ Some (number p.link_down_after)
  pub link_down_turns : set AdapterLinkDownTurns ≡ Some (number p.link_down_turns)
  pub mode : set StopMode ≡ Some (word (mode_chosen p.flush_after))
  pub after : (n : ℕ) → p.flush_after ≡ Some n → set StopAfter ≡ Some (number n)
  pub alone : p.by_hand ≡ false

-- ---- what the report says

abbrev pub ring_of : ClosedLine → ClosedRing Item
ring_of (closed.Legacy ring desc ends) = ring
ring_of (closed.Writeback ring desc ends) = ring
ring_of (closed.Generation ring desc ends) = ring

abbrev pub desc_of : ClosedLine → ClosedSees
desc_of (closed.Legacy ring desc ends) = desc.remains
desc_of (closed.Writeback ring desc ends) = desc.remains
desc_of (closed.Generation ring desc ends) = desc.remains

abbrev pub kind_of : ClosedLine → List ℕ
kind_of (closed.Legacy ring desc ends) = kind_text kind.Legacy
kind_of (closed.Writeback ring desc ends) = kind_text kind.Writeback
kind_of (closed.Generation ring desc ends) = kind_text kind.Generation

-- what a run by these settings leaves is true of its captures, and its counters count its lines
pub record IsGoodRun (set : Chosen) (captures : List (List Frame)) (order : List OrderLine) (turned : List AwayLine) (wire : List ℕ) (plain : Plain) (counters : Counters) (ring : ClosedRing Item) (desc : ClosedSees) (pool : ClosedPool) : Type 0 where
  pub sizes : Sizes
  pub rules : Rules
  pub plan : EnginePlan
  pub sizes_are : AreSizesBy set sizes
  pub rules_are : AreRulesBy set rules
  pub plan_is : IsPlanBy set plan
  -- the order record and the away lines account for all records
  pub lawful : IsLawful sizes.ring rules captures order turned ring.history
  -- the ring is closed at rest and empty, after a legal history
  pub ring_is : IsRingOf sizes rules ring counters
  -- the descriptor ring is closed and empty, its frames have the fates of the order record, and the wire is that of the order record
  pub adapter : IsAdapterOf sizes captures order (packets ring.history) desc wire
  -- frames are too long for the adapter exactly where their line says so, and the others came back as the plan lets them
  pub lengths : AreOfLength sizes.max_segs captures order
  pub causes : FollowsPlan plan sizes.descriptors order
  -- the pool has all its clusters
  pub pool_is : IsPoolOf sizes rules captures turned ring.history pool
  pub counted : plain ≡ counts_of captures order turned

-- the report is good for the settings and the captures
pub record IsGood (set : Chosen) (captures : List (List Frame)) (r : Report) : Type 0 where
  pub run : IsGoodRun set captures r.order r.away r.wire r.plain r.ring (ring_of r.closed) (desc_of r.closed) r.pool
  -- the adapter is of the kind that the settings name
  pub kind_is : set AdapterKind ≡ Some (word (kind_of r.closed))
