-- The settings file and the captures' files: what they were read as, one after the other, and what they say.
use Rattle.std.proofs.Common.{◌≡◌, ◌≢◌, ℕ, suc, ◌<◌, ◌≤◌, ◌+◌, Bool, true, false, cond, nat_lt, List, [], ◌∷◌, ◌++◌, length, take, drop, get_or, Option, Some, None, Result, Ok, Err, refl, sym, ap, subst, ◌∙◌, arith}
use Rattle.std.specs.Prelude.{sum_by}
use Rattle.std.proofs.Math.Seq.{drop-cons}
use Rattle.std.proofs.lemmas.Bool.{le-ltb, lt-ltb}
use Rattle.std.proofs.lemmas.List.{length-take-le, take_more, take-append-drop}
use Rattle.ifl_outside.specs.Files.{Files}
use Rattle.ifl_pcap.specs.declared.frame.Frame.{Frame}
use Rattle.ifl_conf.specs.declared.setting_fault.SettingFault.{SettingFault}
use Rattle.ifl_conf.specs.declared.setting_fault.SettingFault.TheVariants as fault
use Rattle.ifl_conf.specs.declared.settings.Settings.{Settings}
use Rattle.ifl_conf.specs.declared.keys.KeyName.{KeyName}
use Rattle.ifl_conf.specs.Keys.{row}
use Rattle.ifl_conf.specs.Kept.{setting}
use Rattle.ifl_conf.specs.Documents.{fault_of, set_by}
use Rattle.ifl_engine.specs.declared.stop.Stop.{Stop}
use Rattle.ifl_engine.specs.declared.stop.Stop.TheVariants as stop
use Rattle.ifl_engine.specs.declared.stop.Input.{Input}
use Rattle.ifl_engine.specs.declared.stop.Input.TheVariants as input
use Rattle.ifl_engine.specs.Words.{Named}
use Rattle.ifl_engine.specs.Account.{Reply, Source, ForAccount}
use Rattle.ifl_engine.specs.Loading.{Bytes, Chosen, Load, ◌>>=◌, each_from, limited, file_at, settings_file, capture_file, bytes_read, settings_by, settings_in, capture_in, load_in, read_of, stop_by_settings}
use Rattle.ifl_engine.specs.Loaded.{chosen}
use Rattle.ifl_engine.specs.Steps.{IsRead, IsReadFailure}
use Rattle.ifl_engine.proofs.Each.{each_from-more, each_from-stopped, each_from-same}
use Rattle.ifl_engine.proofs.ReadLaws.{IsRead-stopped, IsRead-then, joined, for_both}

-- ---- the settings

pub settings_in-standard : (file : Option (List ℕ)) (s : Settings) → file ≡ None → ((k : KeyName) → setting s k ≡ (row k).standard) → settings_in file ≡ Ok (chosen s)
unfolding settings_in
settings_in-standard file s none is = ap settings_in none ∙ (λ i. Ok (λ k. Some (sym (is k) i)))

of_text : (file : Option (List ℕ)) (bytes text : List ℕ) → file ≡ Some bytes → text ≡ bytes → settings_in file ≡ settings_by (fault_of text) (set_by text)
unfolding settings_in
of_text file bytes text some same = ap settings_in (some ∙ ap (λ (b : List ℕ). Some b) (sym same))

pub settings_in-set : (file : Option (List ℕ)) (bytes text : List ℕ) (s : Settings) → file ≡ Some bytes → text ≡ bytes → fault_of text ≡ None → ((k : KeyName) → set_by text k ≡ Some (setting s k)) → settings_in file ≡ Ok (chosen s)
settings_in-set file bytes text s some same valid set =
    of_text file bytes text some same ∙ ap (λ (f : Option SettingFault). settings_by f (set_by text)) valid ∙ (λ i. Ok (λ k. set k i))

settings_in-bad : (file : Option (List ℕ)) (bytes text : List ℕ) (e : SettingFault) → file ≡ Some bytes → text ≡ bytes → fault_of text ≡ Some e → settings_in file ≡ Err (stop_by_settings e)
settings_in-bad file bytes text e some same fault = of_text file bytes text some same ∙ ap (λ (f : Option SettingFault). settings_by f (set_by text)) fault

abbrev IsRefused : Option (List ℕ) → Stop → Type 0
IsRefused file why = IsRead chosen (Err why) (settings_in file) × (IsReadFailure why → ⊥)

-- a settings file that is refused is not read, and it is not the host that failed
pub settings_in-refused : (file : Option (List ℕ)) (bytes text : List ℕ) (e : SettingFault) (why : Stop) → file ≡ Some bytes → text ≡ bytes → (e ≢ fault.Memory → fault_of text ≡ Some e) → why ≡ stop_by_settings e → IsRefused file why
settings_in-refused file bytes text fault.Text why some same told is = subst (IsRefused file) (sym is) (settings_in-bad file bytes text fault.Text some same (told (λ m. absurd cc)), λ h. h)
settings_in-refused file bytes text fault.Unknown why some same told is = subst (IsRefused file) (sym is) (settings_in-bad file bytes text fault.Unknown some same (told (λ m. absurd cc)), λ h. h)
settings_in-refused file bytes text (fault.Key k) why some same told is = subst (IsRefused file) (sym is) (settings_in-bad file bytes text (fault.Key k) some same (told (λ m. absurd cc)), λ h. h)
settings_in-refused file bytes text fault.Memory why some same told is = subst (IsRefused file) (sym is) (tt, λ h. h)

-- ---- the captures' files

one_more : (n : ℕ) → suc n ≡ n + 1
one_more n = omega arith

-- the files before the FILE of this number
abbrev before : ℕ → Input → Bool
before n input.Settings = true
before n (input.File k) = nat_lt k n

abbrev read_as : ℕ → Reply → Result (List ℕ) Stop
read_as n reply = file_at (input.File n) 67108864 reply

-- the FILEs before one are read by the first account
joined_front : (p q : Source) (front : List (List ℕ)) (ys : List (List ℕ)) (n : ℕ) → n ≡ length front → each_from (capture_file p) 0 front ≡ Ok ys → each_from (capture_file (joined (before n) p q)) 0 front ≡ Ok ys
joined_front p q front ys n at is =
    each_from-same (capture_file (joined (before n) p q)) (capture_file p) 0 front (λ k name le lt.
    ap (λ (b : Bool). read_as k (cond b (p (input.File k) name) (q (input.File k) name))) (lt-ltb k n (let less : k < n = omega arith in less))) ∙ is

-- and that one by the second
joined_next : (p q : Source) (n : ℕ) (name : List ℕ) → capture_file (joined (before n) p q) n name ≡ capture_file q n name
joined_next p q n name = ap (λ (b : Bool). read_as n (cond b (p (input.File n) name) (q (input.File n) name))) (le-ltb n n (omega arith))

split_at : (names : List (List ℕ)) (n : ℕ) (name : List ℕ) → n < length names → name ≡ get_or names n name → take n names ++ name ∷ drop (n + 1) names ≡ names
split_at names n name lt is =
    let rest : drop n names ≡ name ∷ drop (n + 1) names = drop-cons names n name lt ∙ (λ i. sym is i ∷ drop (one_more n i) names) in
    ap (λ (z : List (List ℕ)). take n names ++ z) (sym rest) ∙ take-append-drop n names

-- one more FILE was read
pub captures_read-more : (files : Option Files) (F G K : Type 0) (names : List (List ℕ)) (n : ℕ) (name : List ℕ) (ys : List (List ℕ)) (y : List ℕ) → n < length names → name ≡ get_or names n name → (F → K) → (G → K)
    → ForAccount files F (λ source. each_from (capture_file source) 0 (take n names) ≡ Ok ys) → ForAccount files G (λ source. capture_file source n name ≡ Ok y)
    → ForAccount files K (λ source. each_from (capture_file source) 0 (take (n + 1) names) ≡ Ok (ys ++ y ∷ []))
captures_read-more files F G K names n name ys y lt is f g =
    let long : n ≡ length (take n names) = sym (length-take-le n names (omega arith)) in
    let more : take (n + 1) names ≡ take n names ++ name ∷ [] = take_more names n name lt ∙ ap (λ (z : List ℕ). take n names ++ z ∷ []) (sym is) in
    for_both files F G K (before n) (λ source. each_from (capture_file source) 0 (take n names) ≡ Ok ys) (λ source. capture_file source n name ≡ Ok y) (λ source. each_from (capture_file source) 0 (take (n + 1) names) ≡ Ok (ys ++ y ∷ [])) f g
    (λ p q front next.
    ap (each_from (capture_file (joined (before n) p q)) 0) more
    ∙ each_from-more (capture_file (joined (before n) p q)) n (take n names) name ys y long (joined_front p q (take n names) ys n long front) (joined_next p q n name ∙ next))

-- the next FILE was not read
pub captures_read-stopped : {X Z : Type 0} (view : X → List ℕ) (seen : Z → List (List ℕ)) (files : Option Files) (F G K : Type 0) (names : List (List ℕ)) (n : ℕ) (name : List ℕ) (ys : List (List ℕ)) (why : Stop) → n < length names → name ≡ get_or names n name → (F → K) → (G → K)
    → ForAccount files F (λ source. each_from (capture_file source) 0 (take n names) ≡ Ok ys) → ForAccount files G (λ source. IsRead view (Err why) (capture_file source n name))
    → ForAccount files K (λ source. IsRead seen (Err why) (each_from (capture_file source) 0 names))
captures_read-stopped view seen files F G K names n name ys why lt is f g =
    let long : n ≡ length (take n names) = sym (length-take-le n names (omega arith)) in
    for_both files F G K (before n) (λ source. each_from (capture_file source) 0 (take n names) ≡ Ok ys) (λ source. IsRead view (Err why) (capture_file source n name)) (λ source. IsRead seen (Err why) (each_from (capture_file source) 0 names)) f g
    (λ p q front next.
    subst (λ (z : List (List ℕ)). IsRead seen (Err why) (each_from (capture_file (joined (before n) p q)) 0 z)) (split_at names n name lt is)
    (each_from-stopped view seen (capture_file (joined (before n) p q)) n (take n names) name (drop (n + 1) names) ys why long (joined_front p q (take n names) ys n long front) (subst (IsRead view (Err why)) (sym (joined_next p q n name)) next)))

-- ---- all files

-- the settings file is read by the first account, and the FILEs by the second
abbrev pub of_settings : Input → Bool
of_settings input.Settings = true
of_settings (input.File n) = false

abbrev both : Option (List ℕ) → List (List ℕ) → Bytes
both settings captures = record { settings = settings; captures = captures }

abbrev with_captures : Option (List ℕ) → Result (List (List ℕ)) Stop → Result Bytes Stop
with_captures settings captures = captures >>= λ captures. Ok (both settings captures)

-- the settings file was read, and the captures' files were not
pub bytes_read-stopped : {X Z : Type 0} (view : X → List (List ℕ)) (seen : Z → Bytes) (names : Named) (p q : Source) (settings : Option (List ℕ)) (why : Stop) → settings_file names.settings (p input.Settings) ≡ Ok settings
    → IsRead view (Err why) (each_from (capture_file q) 0 names.files) → IsRead seen (Err why) (bytes_read names (joined of_settings p q))
bytes_read-stopped view seen names p q settings why is read =
    IsRead-then seen (Err why) (settings_file names.settings (p input.Settings)) (λ settings. with_captures settings (each_from (capture_file q) 0 names.files)) settings is
    (IsRead-stopped view seen (each_from (capture_file q) 0 names.files) (λ captures. Ok (both settings captures)) why read)

-- all were read
pub bytes_read-ok : (names : Named) (p q : Source) (settings : Option (List ℕ)) (captures : List (List ℕ)) → settings_file names.settings (p input.Settings) ≡ Ok settings → each_from (capture_file q) 0 names.files ≡ Ok captures → bytes_read names (joined of_settings p q) ≡ Ok (both settings captures)
bytes_read-ok names p q settings captures is is_captures =
    ap (λ (r : Result (Option (List ℕ)) Stop). r >>= λ settings. with_captures settings (each_from (capture_file q) 0 names.files)) is ∙ ap (with_captures settings) is_captures

-- ---- limits

pub limited-over : (most : ℕ) (over : Stop) (count : ℕ) → most < count → limited most over count ≡ Err over
limited-over most over count lt = rw (lt-ltb most count lt) refl

pub limited-within : (most : ℕ) (over : Stop) (count : ℕ) → count ≤ most → limited most over count ≡ Ok count
limited-within most over count le = rw (le-ltb most count le) refl

-- ---- what the files say, step by step

abbrev total : {A : Type 0} → List (List A) → ℕ
total xs = sum_by (λ x. length x) xs

abbrev go_by : Chosen → List (List Frame) → Load
go_by settings captures = record { settings = settings; captures = captures }

abbrev after_count : Chosen → List (List Frame) → Result ℕ Stop → Result Load Stop
after_count settings captures count = count >>= λ n. Ok (go_by settings captures)

abbrev after_captures : Chosen → Result (List (List Frame)) Stop → Result Load Stop
after_captures settings captures = captures >>= λ cs. after_count settings cs (limited 1000000 stop.TooManyFrames (total cs))

abbrev after_settings : List (List ℕ) → Result Chosen Stop → Result Load Stop
after_settings files settings = settings >>= λ s. after_captures s (each_from capture_in 0 files)

abbrev after_size : Bytes → Result ℕ Stop → Result Load Stop
after_size bytes size = size >>= λ n. after_settings bytes.captures (settings_in bytes.settings)

pub load_in-over : (bytes : Bytes) → 134217728 < total bytes.captures → load_in bytes ≡ Err stop.TooManyBytes
load_in-over bytes lt = ap (after_size bytes) (limited-over 134217728 stop.TooManyBytes (total bytes.captures) lt)

sized : (bytes : Bytes) → total bytes.captures ≤ 134217728 → load_in bytes ≡ after_settings bytes.captures (settings_in bytes.settings)
sized bytes le = ap (after_size bytes) (limited-within 134217728 stop.TooManyBytes (total bytes.captures) le)

pub load_in-settings : {X Z : Type 0} (view : X → Chosen) (seen : Z → Load) (bytes : Bytes) (why : Stop) → total bytes.captures ≤ 134217728 → IsRead view (Err why) (settings_in bytes.settings) → IsRead seen (Err why) (load_in bytes)
load_in-settings view seen bytes why le read =
    subst (IsRead seen (Err why)) (sym (sized bytes le)) (IsRead-stopped view seen (settings_in bytes.settings) (λ s. after_captures s (each_from capture_in 0 bytes.captures)) why read)

chosen_then : (bytes : Bytes) (settings : Chosen) → total bytes.captures ≤ 134217728 → settings_in bytes.settings ≡ Ok settings → load_in bytes ≡ after_captures settings (each_from capture_in 0 bytes.captures)
chosen_then bytes settings le is = sized bytes le ∙ ap (after_settings bytes.captures) is

pub load_in-captures : {X Z : Type 0} (view : X → List (List Frame)) (seen : Z → Load) (bytes : Bytes) (settings : Chosen) (why : Stop) → total bytes.captures ≤ 134217728 → settings_in bytes.settings ≡ Ok settings → IsRead view (Err why) (each_from capture_in 0 bytes.captures) → IsRead seen (Err why) (load_in bytes)
load_in-captures view seen bytes settings why le is read =
    subst (IsRead seen (Err why)) (sym (chosen_then bytes settings le is))
    (IsRead-stopped view seen (each_from capture_in 0 bytes.captures) (λ cs. after_count settings cs (limited 1000000 stop.TooManyFrames (total cs))) why read)

parsed_then : (bytes : Bytes) (settings : Chosen) (captures : List (List Frame)) → total bytes.captures ≤ 134217728 → settings_in bytes.settings ≡ Ok settings → each_from capture_in 0 bytes.captures ≡ Ok captures
    → load_in bytes ≡ after_count settings captures (limited 1000000 stop.TooManyFrames (total captures))
parsed_then bytes settings captures le is are = chosen_then bytes settings le is ∙ ap (after_captures settings) are

pub load_in-frames : (bytes : Bytes) (settings : Chosen) (captures : List (List Frame)) → total bytes.captures ≤ 134217728 → settings_in bytes.settings ≡ Ok settings → each_from capture_in 0 bytes.captures ≡ Ok captures → 1000000 < total captures → load_in bytes ≡ Err stop.TooManyFrames
load_in-frames bytes settings captures le is are lt = parsed_then bytes settings captures le is are ∙ ap (after_count settings captures) (limited-over 1000000 stop.TooManyFrames (total captures) lt)

pub load_in-ok : (bytes : Bytes) (settings : Chosen) (captures : List (List Frame)) → total bytes.captures ≤ 134217728 → settings_in bytes.settings ≡ Ok settings → each_from capture_in 0 bytes.captures ≡ Ok captures → total captures ≤ 1000000 → load_in bytes ≡ Ok (go_by settings captures)
load_in-ok bytes settings captures le is are few = parsed_then bytes settings captures le is are ∙ ap (after_count settings captures) (limited-within 1000000 stop.TooManyFrames (total captures) few)

-- ---- what is read

abbrev of_bytes : Result Bytes Stop → Result Load Stop
of_bytes read = read >>= load_in

abbrev after_files : Named → Source → Result ℕ Stop → Result Load Stop
after_files names source count = count >>= λ n. of_bytes (bytes_read names source)

pub read_of-over : (names : Named) (source : Source) → 16 < length names.files → read_of names source ≡ Err stop.TooManyFiles
unfolding read_of
read_of-over names source lt = ap (after_files names source) (limited-over 16 stop.TooManyFiles (length names.files) lt)

few_then : (names : Named) (source : Source) → length names.files ≤ 16 → read_of names source ≡ of_bytes (bytes_read names source)
unfolding read_of
few_then names source le = ap (after_files names source) (limited-within 16 stop.TooManyFiles (length names.files) le)

pub read_of-then : {Z : Type 0} (seen : Z → Load) (names : Named) (source : Source) (bytes : Bytes) (r : Result Z Stop) → length names.files ≤ 16 → bytes_read names source ≡ Ok bytes → IsRead seen r (load_in bytes) → IsRead seen r (read_of names source)
read_of-then seen names source bytes r le is read = subst (IsRead seen r) (sym (few_then names source le)) (IsRead-then seen r (bytes_read names source) load_in bytes is read)

pub read_of-stopped : {X Z : Type 0} (view : X → Bytes) (seen : Z → Load) (names : Named) (source : Source) (why : Stop) → length names.files ≤ 16 → IsRead view (Err why) (bytes_read names source) → IsRead seen (Err why) (read_of names source)
read_of-stopped view seen names source why le read = subst (IsRead seen (Err why)) (sym (few_then names source le)) (IsRead-stopped view seen (bytes_read names source) load_in why read)
