-- The order record of a closed queue, as the packets of its ring.
use Rattle.std.proofs.Common.{◌≡◌, ℕ, ◌/◌, ◌%◌, ◌^◌, ◌<◌, List, [], ◌∷◌, length, map, sym, refl, ap, ◌∙◌, subst, arith}
use Rattle.std.specs.Prelude.{All}
use Rattle.std.proofs.lemmas.List.Elements.{All-head, All-tail}
use Rattle.ifl_ringcore.specs.declared.history.Entry.{Entry}
use Rattle.ifl_pool.specs.declared.history.Counts.{Counts}
use Rattle.ifl_txq.specs.Standing.{AreDistinct, AreListed, AreTickets}
use Rattle.ifl_base.specs.declared.ticket.Ticket.{Ticket}
use Rattle.ifl_pcap.specs.declared.frame.Frame.{Frame}
use Rattle.ifl_ringcore.specs.declared.history.Meaning.{Meaning}
use Rattle.ifl_txq.specs.declared.line.Line.{Line}
use Rattle.ifl_txq.specs.declared.line.OrderLine.{OrderLine}
use Rattle.ifl_txq.specs.Done.{AreLinesOf}
use Rattle.ifl_txq.specs.Items.{tag_of}
use Rattle.ifl_txq.specs.Log.{AreTold, kept}
use Rattle.ifl_line.specs.declared.rules.Rules.{Rules}
use Rattle.ifl_line.specs.Good.{ArePacketsOf, IsNamed}
use Rattle.ifl_line.specs.Lines.{AreSmall}
use Rattle.ifl_line.specs.Runs.{AreShort, IsPacketOf, all_lines, published, ticket, ticket_of}
use Rattle.ifl_line.specs.Sent.{IsSent, all_lines_with, all_no_clusters}
use Rattle.ifl_line.specs.Frames.{lines_with, no_clusters_in}
use Rattle.ifl_line.specs.Steps.{packets}
use Rattle.ifl_line.specs.declared.away_line.AwayLine.{AwayLine}
use Rattle.ifl_line.proofs.Accounts.{tag_ticket}
use Rattle.ifl_line.proofs.Concluding.{packets_in-published}
use Rattle.ifl_line.proofs.Going.{lines_with-append, no_clusters_in-append}
use Rattle.ifl_line.proofs.Naming.{account}
use Rattle.ifl_line.proofs.Tickets.{order_distinct, named_listed}

-- lines of which each has one fate are told
pub lines_told : (ms : List Meaning) (lines : List Line) → AreLinesOf ms lines → AreTold lines
lines_told [] [] h = tt
lines_told [] (l ∷ ls) h = absurd (cc)
lines_told (m ∷ ms) [] h = absurd h
lines_told (m ∷ ms) (l ∷ ls) (tag, fate, more) = (fate, lines_told ms ls more)

ticket_is : (t : Ticket) (m : Meaning) → t.index < 4294967296 → tag_of t ≡ m.tag → t ≡ ticket_of m
ticket_is t m small is = sym (tag_ticket t.sender t.index small) ∙ ap (λ (z : ℕ). ticket (z / 2 ^ 32) (z % 2 ^ 32)) is

-- the tickets of the order record are those of the packets
pub tickets_same : (ms : List Meaning) (order : List OrderLine) → AreSmall order → AreLinesOf ms (map kept order) → map ticket_of ms ≡ map (λ l. l.ticket) order
tickets_same [] [] small h = refl
tickets_same [] (l ∷ ls) small h = absurd (cc)
tickets_same (m ∷ ms) [] small h = absurd h
tickets_same (m ∷ ms) (l ∷ ls) (low, small) (tag, fate, more) = λ i. sym (ticket_is l.ticket m low tag) i ∷ tickets_same ms ls small more i

-- the order record names the packets of the ring
pub lines_named : (r : Rules) (files : List (List Frame)) (ms : List Meaning) (order : List OrderLine) → AreSmall order → AreLinesOf ms (map kept order) → All (IsPacketOf r files) ms → ArePacketsOf r files order ms
lines_named r files [] [] small h fit = refl
lines_named r files [] (l ∷ ls) small h fit = absurd (cc)
lines_named r files (m ∷ ms) [] small h fit = absurd h
lines_named r files (m ∷ ms) (l ∷ ls) (low, small) (tag, fate, more) fit =
    (subst (λ (z : Ticket). IsNamed r files z m) (sym (ticket_is l.ticket m low tag)) (All-head (IsPacketOf r files) m ms fit), lines_named r files ms ls small more (All-tail (IsPacketOf r files) m ms fit))

-- no two packets of a whole run have one ticket, and each has that of a record
pub own_tickets : (size : ℕ) (r : Rules) (files : List (List Frame)) (turned : List (List AwayLine)) (es : List Entry) (c : Counts) → AreShort files → IsSent size r 0 files turned es c → AreTickets (map length files) (published es)
own_tickets size r files turned es c short sent = let all = account size r files turned es c short sent in
    subst (λ (z : List Meaning). AreDistinct z × AreListed (map length files) z) (sym (packets_in-published es)) (order_distinct (packets es) all.in_file_order, named_listed r files (packets es) all.fit)

-- lines of all senders are counted sender by sender
pub lines_with-all_lines : (n : ℕ) (lss : List (List AwayLine)) → lines_with n (all_lines lss) ≡ all_lines_with n lss
lines_with-all_lines n [] = refl
lines_with-all_lines n (ls ∷ lss) = let a = lines_with-append n ls (all_lines lss) in let b = lines_with-all_lines n lss in omega arith

pub no_clusters_in-all_lines : (lss : List (List AwayLine)) → no_clusters_in (all_lines lss) ≡ all_no_clusters lss
no_clusters_in-all_lines [] = refl
no_clusters_in-all_lines (ls ∷ lss) = let a = no_clusters_in-append ls (all_lines lss) in let b = no_clusters_in-all_lines lss in omega arith
