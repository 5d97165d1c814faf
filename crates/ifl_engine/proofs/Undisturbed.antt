-- What the settings of a run leave of its plan.
use Rattle.std.proofs.Common.{◌≡◌, ℕ, List, [], ◌∷◌, refl, sym, ap, ◌∙◌, arith}
use Rattle.std.specs.Prelude.{All, Option, Some, None}
use Rattle.ifl_conf.specs.declared.choices.Policy.TheVariants as policy
use Rattle.ifl_conf.specs.declared.choices.StopMode.TheVariants as mode
use Rattle.ifl_conf.specs.declared.keys.KeyName.TheVariants.{AdapterHangAfter, FramesPolicy, StopMode}
use Rattle.ifl_conf.specs.Choices.{mode_text, policy_text}
use Rattle.ifl_conf.specs.Keys.{Setting, flag, number, word}
use Rattle.ifl_pcap.specs.declared.frame.Frame.{Frame}
use Rattle.ifl_line.specs.declared.rules.Policy.{Policy}
use Rattle.ifl_line.specs.declared.rules.Policy.TheVariants.{Drop, Retry}
use Rattle.ifl_line.specs.Causes.{IsSentWhole}
use Rattle.ifl_line.specs.Runs.{all_from}
use Rattle.ifl_line.proofs.Completing.{sent_whole}
use Rattle.ifl_engine.specs.declared.report.Report.{Report}
use Rattle.ifl_engine.specs.Loading.{Chosen}
use Rattle.ifl_engine.specs.Report.{IsGood, mode_chosen, policy_chosen}

abbrev number_or : Option Setting → ℕ
number_or None = 0
number_or (Some (number n)) = n
number_or (Some (flag b)) = 0
number_or (Some (word w)) = 0

abbrev first_or : List ℕ → ℕ
first_or [] = 0
first_or (x ∷ xs) = x

-- with which letter the word begins
abbrev letter : Option Setting → ℕ
letter None = 0
letter (Some (number n)) = 0
letter (Some (flag b)) = 0
letter (Some (word w)) = first_or w

retries : (p : Policy) → Some (word (policy_chosen p)) ≡ Some (word (policy_text policy.Retry)) → p ≡ Retry
retries Retry e = refl
retries Drop e = absurd (let n : 100 ≡ 114 = ap letter e in omega arith)

drains : (o : Option ℕ) → Some (word (mode_chosen o)) ≡ Some (word (mode_text mode.Drain)) → o ≡ None
drains None e = refl
drains (Some n) e = absurd (let k : 102 ≡ 100 = ap letter e in omega arith)

-- where the settings say retry, drain and no hang, a good run has sent every frame that fits
pub all_sent : (set : Chosen) (captures : List (List Frame)) (r : Report) (g : IsGood set captures r) → set FramesPolicy ≡ Some (word (policy_text policy.Retry)) → set StopMode ≡ Some (word (mode_text mode.Drain)) → set AdapterHangAfter ≡ Some (number 0)
    → All (IsSentWhole g.run.sizes.max_segs g.run.rules captures r.order) (all_from 0 captures)
all_sent set captures r g retry drain calm = sent_whole g.run.sizes.ring g.run.sizes.max_segs g.run.sizes.descriptors g.run.rules g.run.plan captures r.order r.away _
    (retries g.run.rules.policy (sym g.run.rules_are.policy ∙ retry))
    (ap number_or (sym g.run.plan_is.hang_after ∙ calm))
    (drains g.run.plan.flush_after (sym g.run.plan_is.mode ∙ drain)) g.run.lawful g.run.lengths g.run.causes
