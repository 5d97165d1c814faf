-- What a part of a run did: some senders one after another in number, with one seat and one pass that stand for all of theirs.
use Rattle.std.specs.Prelude.{◌≡◌, ℕ, ◌+◌, ◌<◌, ◌≤◌, ◌⊎◌, List, [], ◌∷◌, ◌++◌, length}
use Rattle.ifl_pcap.specs.declared.frame.Frame.{Frame}
use Rattle.ifl_pool.specs.declared.history.Counts.{Counts}
use Rattle.ifl_pool.specs.declared.known.Known.{Known as Passed}
use Rattle.ifl_ring.specs.declared.view.Known.{Known}
use Rattle.ifl_ringcore.specs.declared.history.Entry.{Entry}
use Rattle.ifl_ringcore.specs.declared.history.Meaning.{Meaning}
use Rattle.ifl_line.specs.declared.away_line.AwayLine.{AwayLine}
use Rattle.ifl_line.specs.declared.rules.Rules.{Rules}
use Rattle.ifl_line.specs.declared.rules.Policy.TheVariants.{Drop}
use Rattle.ifl_line.specs.Meanings.{of_sender}
use Rattle.ifl_line.specs.Steps.{packets, weigh, refusals, AreLawful, Stepped}
use Rattle.ifl_line.specs.Frames.{Goes, lines_with, no_clusters_in, needs}

-- the packets of one sender among what these entries published
abbrev pub sent_by : ℕ → List Entry → List Meaning
sent_by s es = of_sender s (packets es)

-- the senders from the number s on: what each published and turned away are its frames
abbrev pub AreGone : ℕ → Rules → ℕ → List (List Frame) → List (List AwayLine) → List Entry → Type 0
AreGone size r s [] [] es = Unit {0}
AreGone size r s [] (ls ∷ lss) es = ⊥
AreGone size r s (fs ∷ fss) [] es = ⊥
AreGone size r s (fs ∷ fss) (ls ∷ lss) es = Goes size r s 0 fs ls (sent_by s es) × AreGone size r (s + 1) fss lss es

abbrev pub all_lines_with : ℕ → List (List AwayLine) → ℕ
all_lines_with n [] = 0
all_lines_with n (ls ∷ lss) = lines_with n ls + all_lines_with n lss

abbrev pub all_no_clusters : List (List AwayLine) → ℕ
all_no_clusters [] = 0
all_no_clusters (ls ∷ lss) = no_clusters_in ls + all_no_clusters lss

abbrev pub all_needs : Rules → List (List Frame) → ℕ
all_needs r [] = 0
all_needs r (fs ∷ fss) = needs r fs + all_needs r fss

-- the senders from the number s on, with these files and away lines: es are all entries of the numbers of their seats, and counts those of their passes
pub record IsSent (size : ℕ) (r : Rules) (s : ℕ) (files : List (List Frame)) (turned : List (List AwayLine)) (es : List Entry) (counts : Counts) : Type 0 where
  -- of each sender exactly the frames that were not turned away were published, in the order of its file, each once
  pub gone : AreGone size r s files turned es
  -- and no packet of another sender
  pub others : (k : ℕ) → (k < s) ⊎ (s + length files ≤ k) → sent_by k es ≡ []
  -- packets and Kicks were published as the rules say
  pub lawful : AreLawful r.budget r.abdicate es
  -- no word stands in more lines than it refused
  pub refused : (n : ℕ) → all_lines_with n turned ≤ refusals n es
  -- every cluster that is out lies in what was published
  pub out : counts.taken ≡ counts.given + weigh es
  -- no more lines want clusters than steps found the pool empty
  pub empty : all_no_clusters turned ≤ counts.empty
  -- where frames are dropped, no more clusters were taken than the frames need
  pub bound : r.policy ≡ Drop → counts.taken + all_no_clusters turned ≤ all_needs r files

-- the counts rose by so many
pub record Rises (taken given empty : ℕ) (p q : Passed) : Type 0 where
  pub part : q.part ≡ p.part
  pub taken_is : q.counts.taken ≡ p.counts.taken + taken
  pub given_is : q.counts.given ≡ p.counts.given + given
  pub empty_is : q.counts.empty ≡ p.counts.empty + empty

-- the frames of the sender s from its record k on were handled: what its seat, its pass and its lines were before and are now
pub record Handled (size : ℕ) (r : Rules) (s k : ℕ) (frames : List Frame) (v : Known) (p : Passed) (old : List AwayLine) (w : Known) (q : Passed) (new : List AwayLine) : Type 0 where
  pub es : List Entry
  pub stepped : Stepped v es w
  pub lines : List AwayLine
  pub lines_are : new ≡ old ++ lines
  pub taken : ℕ
  pub given : ℕ
  pub empty : ℕ
  pub rises : Rises taken given empty p q
  pub goes : Goes size r s k frames lines (packets es)
  pub lawful : AreLawful r.budget r.abdicate es
  pub refused : (n : ℕ) → lines_with n lines ≤ refusals n es
  pub out : taken ≡ given + weigh es
  pub found_empty : no_clusters_in lines ≤ empty
  pub bound : r.policy ≡ Drop → taken + no_clusters_in lines ≤ needs r frames
