-- The keys of a settings file.
use Rattle.std.specs.Prelude.{ℕ, nat_le, Bool, true, false, ◌&&◌, List, [], ◌∷◌, ◌++◌, codes, Option, None, Some}
use Rattle.std.specs.List.{list_any}
use Rattle.std.specs.Str.{bytes_eq}
use Rattle.ifl_conf.specs.declared.keys.KeyName.{KeyName}
use Rattle.ifl_conf.specs.declared.keys.KeyName.TheVariants.{Version, RingSize, RingBudget, RingAbdicate, AdapterKind, AdapterDescriptors, AdapterMaxSegs, AdapterDoorbellEvery, AdapterTurnFrames, AdapterStart, AdapterHangAfter, AdapterLinkDownAfter, AdapterLinkDownTurns, FramesMaxFrame, FramesPolicy, PoolClusters, PoolSegBytes, StopMode, StopAfter, RxDescriptors, RxClusters, RxBurst, RxCopyBreak}

-- what a key is set to
pub data Setting : Type 0 where
  number : ℕ → Setting
  flag : Bool → Setting
  word : List ℕ → Setting

-- what a key may be set to
pub data Kind : Type 0 where
  between : (least most : ℕ) → Kind
  truth : Kind
  one_of : (words : List (List ℕ)) → Kind

-- a key: the table that it stands in, None for the top; its name there; and what it is where it is left out
pub record Row : Type 0 where
  pub place : Option (List ℕ)
  pub name : List ℕ
  pub kind : Kind
  pub standard : Setting

-- a key of numbers
abbrev pub numbered : List ℕ → List ℕ → ℕ → ℕ → ℕ → Row
numbered place name least most standard = record { place = Some place; name = name; kind = between least most; standard = number standard }

-- a key that is true or false
abbrev pub flagged : List ℕ → List ℕ → Bool → Row
flagged place name standard = record { place = Some place; name = name; kind = truth; standard = flag standard }

-- a key of words
abbrev pub worded : List ℕ → List ℕ → List (List ℕ) → List ℕ → Row
worded place name words standard = record { place = Some place; name = name; kind = one_of words; standard = word standard }

-- the table of keys
abbrev pub row : KeyName → Row
row Version = record { place = None; name = codes "version"; kind = between 1 1; standard = number 1 }
row RingSize = numbered (codes "ring") (codes "size") 4 65536 2048
row RingBudget = numbered (codes "ring") (codes "budget") 0 65535 32
row RingAbdicate = flagged (codes "ring") (codes "abdicate") false
row AdapterKind = worded (codes "adapter") (codes "kind") (codes "legacy" ∷ codes "writeback" ∷ codes "generation" ∷ []) (codes "writeback")
row AdapterDescriptors = numbered (codes "adapter") (codes "descriptors") 8 32768 1024
row AdapterMaxSegs = numbered (codes "adapter") (codes "max_segs") 1 64 32
row AdapterDoorbellEvery = numbered (codes "adapter") (codes "doorbell_every") 1 32 4
row AdapterTurnFrames = numbered (codes "adapter") (codes "turn_frames") 1 65535 64
row AdapterStart = worded (codes "adapter") (codes "start") (codes "at_once" ∷ codes "after_senders" ∷ []) (codes "at_once")
row AdapterHangAfter = numbered (codes "adapter") (codes "hang_after") 0 1000000 0
row AdapterLinkDownAfter = numbered (codes "adapter") (codes "link_down_after") 0 1000000 0
row AdapterLinkDownTurns = numbered (codes "adapter") (codes "link_down_turns") 1 65535 16
row FramesMaxFrame = numbered (codes "frames") (codes "max_frame") 14 65536 65536
row FramesPolicy = worded (codes "frames") (codes "policy") (codes "retry" ∷ codes "drop" ∷ []) (codes "retry")
row PoolClusters = numbered (codes "pool") (codes "clusters") 1 65536 4096
row PoolSegBytes = numbered (codes "pool") (codes "seg_bytes") 64 2048 2048
row StopMode = worded (codes "stop") (codes "mode") (codes "drain" ∷ codes "flush" ∷ []) (codes "drain")
row StopAfter = numbered (codes "stop") (codes "after") 0 1000000 0
row RxDescriptors = numbered (codes "rx") (codes "descriptors") 8 32768 512
row RxClusters = numbered (codes "rx") (codes "clusters") 8 65536 2048
row RxBurst = numbered (codes "rx") (codes "burst") 1 65535 64
row RxCopyBreak = numbered (codes "rx") (codes "copy_break") 0 2048 128

-- the keys of each table
abbrev pub ring_keys : List KeyName
ring_keys = RingSize ∷ RingBudget ∷ RingAbdicate ∷ []

abbrev pub adapter_keys : List KeyName
adapter_keys =
    AdapterKind ∷ AdapterDescriptors ∷ AdapterMaxSegs ∷ AdapterDoorbellEvery ∷ AdapterTurnFrames ∷ AdapterStart ∷ AdapterHangAfter
    ∷ AdapterLinkDownAfter ∷ AdapterLinkDownTurns ∷ []

abbrev pub frames_keys : List KeyName
frames_keys = FramesMaxFrame ∷ FramesPolicy ∷ []

abbrev pub pool_keys : List KeyName
pool_keys = PoolClusters ∷ PoolSegBytes ∷ []

abbrev pub stop_keys : List KeyName
stop_keys = StopMode ∷ StopAfter ∷ []

abbrev pub rx_keys : List KeyName
rx_keys = RxDescriptors ∷ RxClusters ∷ RxBurst ∷ RxCopyBreak ∷ []

-- the keys in their order
abbrev pub keys : List KeyName
keys = Version ∷ (ring_keys ++ (adapter_keys ++ (frames_keys ++ (pool_keys ++ (stop_keys ++ rx_keys)))))

-- the two tables, or the top, are one place
abbrev pub same_place : Option (List ℕ) → Option (List ℕ) → Bool
same_place None None = true
same_place (Some a) (Some b) = bytes_eq a b
same_place _ _ = false

-- some key stands there under this name
unfoldable pub is_key : Option (List ℕ) → List ℕ → Bool
is_key place name = list_any (λ k. same_place (row k).place place && bytes_eq (row k).name name) keys

-- some key stands in this table
unfoldable pub is_table_name : List ℕ → Bool
is_table_name name = list_any (λ k. same_place (row k).place (Some name)) keys

-- the setting is of the kind and in its range
abbrev pub fits : Kind → Setting → Bool
fits (between least most) (number n) = nat_le least n && nat_le n most
fits truth (flag b) = true
fits (one_of words) (word s) = list_any (bytes_eq s) words
fits _ _ = false
