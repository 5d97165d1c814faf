-- The first fault of bytes that are no capture's file: its place, and what is wrong there.
use Rattle.std.specs.Prelude.{◌≡◌, ◌≢◌, ◌⊎◌, ◌<◌, ◌≤◌, ◌+◌, ℕ, List, length, take, drop}
use Rattle.ifl_pcap.specs.declared.form.Order.{Order}
use Rattle.ifl_pcap.specs.declared.form.Form.{Form}
use Rattle.ifl_pcap.specs.declared.frame.Frame.{Frame}
use Rattle.ifl_pcap.specs.declared.fault.CaptureWhy.{CaptureWhy}
use Rattle.ifl_pcap.specs.declared.fault.CaptureWhy.TheVariants.{Short, Magic, Version, Link, RecordShort, TooLong}
use Rattle.ifl_pcap.specs.declared.fault.CaptureFault.{CaptureFault}
use Rattle.ifl_pcap.specs.declared.fault.CaptureFault.TheVariants.{Bad, Memory}
use Rattle.ifl_pcap.specs.Numbers.{number_in}
use Rattle.ifl_pcap.specs.File.{magic, version, ethernet, link_place, HasHeader, AreRecords}

-- the captured length that a record announces
abbrev pub announced : Order → List ℕ → ℕ
announced order bytes = number_in order (drop 8 bytes)

-- what is wrong with the record at the front of these bytes
abbrev pub IsBadRecord : Order → List ℕ → CaptureWhy → Type 0
IsBadRecord order bytes RecordShort = (length bytes < 16) ⊎ ((16 ≤ length bytes) × (announced order bytes ≤ 262144) × (length bytes < 16 + announced order bytes))
IsBadRecord order bytes TooLong = (16 ≤ length bytes) × (262144 < announced order bytes)
IsBadRecord order bytes why = ⊥

-- the record that begins at this place is wrong, and all before it are whole
pub record IsRecordFault (bytes : List ℕ) (at : ℕ) (why : CaptureWhy) : Type 0 where
  pub form : Form
  pub header : HasHeader form bytes
  pub frames : List Frame
  pub rest : List ℕ
  pub records : AreRecords form frames (drop 24 bytes) rest
  pub some : 1 ≤ length rest
  pub place : at + length rest ≡ length bytes
  pub wrong : IsBadRecord form.order rest why

-- the magic of this form is there, and no other version
pub record IsOtherVersion (form : Form) (bytes : List ℕ) : Type 0 where
  pub long : 24 ≤ length bytes
  pub begins : take 4 bytes ≡ magic form
  pub wrong : take 4 (drop 4 bytes) ≢ version form.order

-- magic and version of this form are there, and another link type
pub record IsOtherLink (form : Form) (bytes : List ℕ) : Type 0 where
  pub long : 24 ≤ length bytes
  pub begins : take 4 bytes ≡ magic form
  pub revision : take 4 (drop 4 bytes) ≡ version form.order
  pub wrong : take 2 (drop (link_place form.order) bytes) ≢ ethernet form.order

-- the first fault of these bytes
abbrev pub IsFirstFault : List ℕ → ℕ → CaptureWhy → Type 0
IsFirstFault bytes at Short = (at ≡ 0) × (length bytes < 24)
IsFirstFault bytes at Magic = (at ≡ 0) × (24 ≤ length bytes) × ((form : Form) → take 4 bytes ≢ magic form)
IsFirstFault bytes at Version = (at ≡ 4) × (form : Form) × IsOtherVersion form bytes
IsFirstFault bytes at Link = (at ≡ 20) × (form : Form) × IsOtherLink form bytes
IsFirstFault bytes at RecordShort = IsRecordFault bytes at RecordShort
IsFirstFault bytes at TooLong = IsRecordFault bytes at TooLong

-- a fault that says something of the bytes says their first one
abbrev pub IsFaultOf : List ℕ → CaptureFault → Type 0
IsFaultOf bytes (Bad at why) = IsFirstFault bytes at why
IsFaultOf bytes Memory = Unit {0}
