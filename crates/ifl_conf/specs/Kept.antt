-- What settings say of each key.
use Rattle.std.specs.Prelude.{false}
use Rattle.ifl_conf.specs.declared.keys.KeyName.{KeyName}
use Rattle.ifl_conf.specs.declared.keys.KeyName.TheVariants.{Version, RingSize, RingBudget, RingAbdicate, AdapterKind, AdapterDescriptors, AdapterMaxSegs, AdapterDoorbellEvery, AdapterTurnFrames, AdapterStart, AdapterHangAfter, AdapterLinkDownAfter, AdapterLinkDownTurns, FramesMaxFrame, FramesPolicy, PoolClusters, PoolSegBytes, StopMode, StopAfter, RxDescriptors, RxClusters, RxBurst, RxCopyBreak}
use Rattle.ifl_conf.specs.declared.settings.RingSettings.{RingSettings}
use Rattle.ifl_conf.specs.declared.settings.AdapterSettings.{AdapterSettings}
use Rattle.ifl_conf.specs.declared.settings.FramesSettings.{FramesSettings}
use Rattle.ifl_conf.specs.declared.settings.PoolSettings.{PoolSettings}
use Rattle.ifl_conf.specs.declared.settings.StopSettings.{StopSettings}
use Rattle.ifl_conf.specs.declared.settings.RxSettings.{RxSettings}
use Rattle.ifl_conf.specs.declared.settings.Settings.{Settings}
use Rattle.ifl_conf.specs.Choices.{kind_text, start_text, policy_text, mode_text}
use Rattle.ifl_conf.specs.Keys.{Setting, number, flag, word}

-- The settings of one table. Of a key that is not in it they say nothing.

-- of the ring
abbrev pub ring_setting : RingSettings → KeyName → Setting
ring_setting r RingSize = number r.size
ring_setting r RingBudget = number r.budget
ring_setting r RingAbdicate = flag r.abdicate
ring_setting r _ = flag false

-- of the adapter
abbrev pub adapter_setting : AdapterSettings → KeyName → Setting
adapter_setting a AdapterKind = word (kind_text a.kind)
adapter_setting a AdapterDescriptors = number a.descriptors
adapter_setting a AdapterMaxSegs = number a.max_segs
adapter_setting a AdapterDoorbellEvery = number a.doorbell_every
adapter_setting a AdapterTurnFrames = number a.turn_frames
adapter_setting a AdapterStart = word (start_text a.start)
adapter_setting a AdapterHangAfter = number a.hang_after
adapter_setting a AdapterLinkDownAfter = number a.link_down_after
adapter_setting a AdapterLinkDownTurns = number a.link_down_turns
adapter_setting a _ = flag false

-- of frames
abbrev pub frames_setting : FramesSettings → KeyName → Setting
frames_setting f FramesMaxFrame = number f.max_frame
frames_setting f FramesPolicy = word (policy_text f.policy)
frames_setting f _ = flag false

-- of the pool
abbrev pub pool_setting : PoolSettings → KeyName → Setting
pool_setting p PoolClusters = number p.clusters
pool_setting p PoolSegBytes = number p.seg_bytes
pool_setting p _ = flag false

-- of the stop
abbrev pub stop_setting : StopSettings → KeyName → Setting
stop_setting s StopMode = word (mode_text s.mode)
stop_setting s StopAfter = number s.after
stop_setting s _ = flag false

-- of the receive path
abbrev pub rx_setting : RxSettings → KeyName → Setting
rx_setting r RxDescriptors = number r.descriptors
rx_setting r RxClusters = number r.clusters
rx_setting r RxBurst = number r.burst
rx_setting r RxCopyBreak = number r.copy_break
rx_setting r _ = flag false

-- what a key is set to
abbrev pub setting : Settings → KeyName → Setting
setting s Version = number s.version
setting s RingSize = ring_setting s.ring RingSize
setting s RingBudget = ring_setting s.ring RingBudget
setting s RingAbdicate = ring_setting s.ring RingAbdicate
setting s AdapterKind = adapter_setting s.adapter AdapterKind
setting s AdapterDescriptors = adapter_setting s.adapter AdapterDescriptors
setting s AdapterMaxSegs = adapter_setting s.adapter AdapterMaxSegs
setting s AdapterDoorbellEvery = adapter_setting s.adapter AdapterDoorbellEvery
setting s AdapterTurnFrames = adapter_setting s.adapter AdapterTurnFrames
setting s AdapterStart = adapter_setting s.adapter AdapterStart
setting s AdapterHangAfter = adapter_setting s.adapter AdapterHangAfter
setting s AdapterLinkDownAfter = adapter_setting s.adapter AdapterLinkDownAfter
setting s AdapterLinkDownTurns = adapter_setting s.adapter AdapterLinkDownTurns
setting s FramesMaxFrame = frames_setting s.frames FramesMaxFrame
setting s FramesPolicy = frames_setting s.frames FramesPolicy
setting s PoolClusters = pool_setting s.pool PoolClusters
setting s PoolSegBytes = pool_setting s.pool PoolSegBytes
setting s StopMode = stop_setting s.stop StopMode
setting s StopAfter = stop_setting s.stop StopAfter
setting s RxDescriptors = rx_setting s.rx RxDescriptors
setting s RxClusters = rx_setting s.rx RxClusters
setting s RxBurst = rx_setting s.rx RxBurst
setting s RxCopyBreak = rx_setting s.rx RxCopyBreak
