-- Packets and lines name frames of their files.
use Rattle.std.proofs.Common.{◌≡◌, ℕ, ◌+◌, ◌≤◌, List, [], ◌∷◌, ◌++◌, length, append_assoc, sym, refl, ap, ◌∙◌, subst, inl, inr, arith, length-append}
use Rattle.std.specs.Prelude.{All, Option, Some, slice_get, option_and_then}
use Rattle.std.specs.List.Sorted.{IsPermutation}
use Rattle.std.proofs.lemmas.List.Elements.{All-nil, All-cons, All-append}
use Rattle.std.proofs.lemmas.List.Sorted.{All-permutation, IsPermutation-sym}
use Rattle.ifl_base.specs.declared.ticket.Ticket.{Ticket}
use Rattle.ifl_pcap.specs.declared.frame.Frame.{Frame}
use Rattle.ifl_ringcore.specs.declared.history.Entry.{Entry}
use Rattle.ifl_ringcore.specs.declared.history.Meaning.{Meaning}
use Rattle.ifl_pool.specs.declared.history.Counts.{Counts}
use Rattle.ifl_line.specs.declared.away_line.AwayLine.{AwayLine}
use Rattle.ifl_line.specs.declared.rules.Rules.{Rules}
use Rattle.ifl_line.specs.Meanings.{packet_of}
use Rattle.ifl_line.specs.Frames.{Goes, line_of}
use Rattle.ifl_line.specs.Steps.{packets}
use Rattle.ifl_line.specs.Sent.{sent_by, AreGone, IsSent}
use Rattle.ifl_line.specs.Runs.{AreShort, ticket, ticket_of, all_lines, frame_of, IsPacketOf, IsLineOf, IsAccount}
use Rattle.ifl_line.proofs.Accounts.{tag_ticket, by_sender, sorted_senders, each_once}
use Rattle.ifl_line.proofs.Orders.{in_file_order, away_in_order}

at_length : {X : Type 0} (before : List X) (x : X) (rest : List X) → slice_get (before ++ x ∷ rest) (length before) ≡ Some x
at_length [] x rest = refl
at_length (y ∷ before) x rest = at_length before x rest

found : (files : List (List Frame)) (s k : ℕ) (fs : List Frame) (f : Frame) → slice_get files s ≡ Some fs → slice_get fs k ≡ Some f → frame_of files (ticket s k) ≡ Some f
found files s k fs f a b = ap (λ (o : Option (List Frame)). option_and_then (λ (gs : List Frame). slice_get gs k) o) a ∙ b

module _ (size : ℕ) (r : Rules) (files : List (List Frame)) where
  goes_named : (s k : ℕ) (whole before fs : List Frame) (ls : List AwayLine) (ms : List Meaning) → slice_get files s ≡ Some whole → whole ≡ before ++ fs → k ≡ length before → k + length fs ≤ 4294967296 → Goes size r s k fs ls ms
      → All (IsPacketOf r files) ms × All (IsLineOf size r files) ls
  goes_named s k whole before [] ls ms file is at small (no_lines, none) = (subst (All (IsPacketOf r files)) (sym none) (All-nil (IsPacketOf r files)), subst (All (IsLineOf size r files)) (sym no_lines) (All-nil (IsLineOf size r files)))
  goes_named s k whole before (f ∷ fs) ls ms file is at small (inl (xs, fit, sent, more)) =
      let here : frame_of files (ticket s k) ≡ Some f = found files s k whole f file (ap (λ (z : List Frame). slice_get z k) is ∙ ap (slice_get (before ++ f ∷ fs)) at ∙ at_length before f fs) in
      let (a, b) = goes_named s (k + 1) whole (before ++ f ∷ []) fs ls xs file (is ∙ sym (append_assoc before (f ∷ []) fs)) (let n = length-append before (f ∷ []) in omega arith) (omega arith) more in
      let t : ticket s k ≡ ticket_of (packet_of r.seg_bytes s k f) = sym (tag_ticket s k (omega arith)) in
      let named : IsPacketOf r files (packet_of r.seg_bytes s k f) = (f, ap (frame_of files) (sym t) ∙ here, fit, ap (λ (z : Ticket). packet_of r.seg_bytes z.sender z.index f) t) in
      (subst (All (IsPacketOf r files)) (sym sent) (All-cons (IsPacketOf r files) (packet_of r.seg_bytes s k f) xs named a), b)
  goes_named s k whole before (f ∷ fs) ls ms file is at small (inr (why, xs, may, line, more)) =
      let here : frame_of files (ticket s k) ≡ Some f = found files s k whole f file (ap (λ (z : List Frame). slice_get z k) is ∙ ap (slice_get (before ++ f ∷ fs)) at ∙ at_length before f fs) in
      let (a, b) = goes_named s (k + 1) whole (before ++ f ∷ []) fs xs ms file (is ∙ sym (append_assoc before (f ∷ []) fs)) (let n = length-append before (f ∷ []) in omega arith) (omega arith) more in
      (a, subst (All (IsLineOf size r files)) (sym line) (All-cons (IsLineOf size r files) (line_of s k why) xs (f, here, may) b))

  gone_named : (s : ℕ) (before fss : List (List Frame)) (lss : List (List AwayLine)) (es : List Entry) → files ≡ before ++ fss → s ≡ length before → AreShort fss → AreGone size r s fss lss es
      → All (IsPacketOf r files) (by_sender s fss (packets es)) × All (IsLineOf size r files) (all_lines lss)
  gone_named s before [] [] es is at short g = (All-nil (IsPacketOf r files), All-nil (IsLineOf size r files))
  gone_named s before [] (ls ∷ lss) es is at short g = absurd g
  gone_named s before (fs ∷ fss) [] es is at short g = absurd g
  gone_named s before (fs ∷ fss) (ls ∷ lss) es is at (few, short) (g, more) =
      let file : slice_get files s ≡ Some fs = ap (λ (z : List (List Frame)). slice_get z s) is ∙ ap (slice_get (before ++ fs ∷ fss)) at ∙ at_length before fs fss in
      let (a, b) = goes_named s 0 fs [] fs ls (sent_by s es) file refl refl (omega arith) g in
      let (c, d) = gone_named (s + 1) (before ++ fs ∷ []) fss lss es (is ∙ sym (append_assoc before (fs ∷ []) fss)) (let n = length-append before (fs ∷ []) in omega arith) short more in
      (All-append (IsPacketOf r files) (sent_by s es) (by_sender (s + 1) fss (packets es)) a c, All-append (IsLineOf size r files) ls (all_lines lss) b d)

-- a whole run is an account of its files
pub account : (size : ℕ) (r : Rules) (files : List (List Frame)) (turned : List (List AwayLine)) (es : List Entry) (c : Counts) → AreShort files → IsSent size r 0 files turned es c → IsAccount size r files es turned
account size r files turned es c short sent =
    let (a, b) = gone_named size r files 0 [] files turned es refl refl short sent.gone in let ms : List Meaning = packets es in
    let p : IsPermutation (by_sender 0 files ms) ms = IsPermutation-sym ms (by_sender 0 files ms) (sorted_senders ms 0 files sent.others) in record {
      each_once = each_once size r 0 files turned es short sent.gone sent.others;
      in_file_order = in_file_order size r 0 files turned es short sent.gone sent.others;
      away_in_order = away_in_order size r 0 files turned es sent.gone;
      fit = All-permutation (IsPacketOf r files) (by_sender 0 files ms) ms p a;
      turned_away = b;
    }
