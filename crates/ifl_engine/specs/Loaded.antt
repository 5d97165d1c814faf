-- What the files of `send` are seen as.
use Rattle.std.specs.Prelude.{ℕ, List, map, option_map, Some}
use Rattle.std.specs.Global.{Vec}
use Rattle.ifl_pcap.specs.declared.frame.Frame.{Frame}
use Rattle.ifl_pcap.specs.declared.capture.Capture.{Capture}
use Rattle.ifl_conf.specs.declared.settings.Settings.{Settings}
use Rattle.ifl_conf.specs.Kept.{setting}
use Rattle.ifl_engine.specs.declared.reading.Files.{Files}
use Rattle.ifl_engine.specs.declared.gathering.Load.{Load}
use Rattle.ifl_engine.specs.Loading.{Bytes, Chosen, Load as Loaded}

-- the bytes of a file, and of each of some files
abbrev pub bytes_of : Vec ℕ → List ℕ
bytes_of v = v.items

abbrev pub each_bytes : Vec (Vec ℕ) → List (List ℕ)
each_bytes v = map bytes_of v.items

abbrev pub bytes_seen : Files → Bytes
bytes_seen f = record { settings = option_map bytes_of f.settings; captures = each_bytes f.captures }

-- what they say: each key as the settings have it, and the frames of each capture
abbrev pub chosen : Settings → Chosen
chosen s k = Some (setting s k)

abbrev pub frames_of : Capture → List Frame
frames_of c = c.frames

abbrev pub each_frames : Vec Capture → List (List Frame)
each_frames v = map frames_of v.items

abbrev pub load_seen : Load → Loaded
load_seen l = record { settings = chosen l.settings; captures = each_frames l.captures }
