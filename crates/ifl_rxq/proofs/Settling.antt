-- After a burst the list has settled all that the engine returned.
use Rattle.std.proofs.Common.{◌≡◌, ℕ, zero, suc, ◌+◌, ◌-◌, ◌<◌, ◌≤◌, ◌⊎◌, inl, inr, Bool, cond, List, [], ◌∷◌, ◌++◌, length, drop, sym, ap, ◌∙◌, subst, arith, append-nil, append_assoc, length-append}
use Rattle.ifl_desc.specs.declared.desc.Desc.{Desc}
use Rattle.ifl_desc.specs.declared.history.Side.TheVariants.{Device}
use Rattle.ifl_desc.specs.History.{sent}
use Rattle.ifl_desc.specs.Frames.{open_after, frames_of, IsWholeFrame}
use Rattle.ifl_desc.proofs.Splitting.{frame_alone}
use Rattle.ifl_desc.proofs.Framing.{open_append}
use Rattle.ifl_rxq.specs.FreeLists.{FreeSees, IsFreeList, Delivers, IsCaughtUp, HasNoRoom, delivered_of, filled_of, settled}
use Rattle.ifl_rxq.proofs.Splits.{frames_both, whole_open, whole_front, some_frames, filled_append, filled_few, records, records_append, records_first, written_length, take_drop, take_length, two_fronts}

module _ (b : FreeSees) (k : IsFreeList b) (real rest : List Desc) (sees : sent Device b.driver.seen ≡ real ++ rest) (ends : open_after 0 real ≡ 0) where
  abbrev list : List Desc
  list = sent Device b.driver.seen

  pub back_there : b.driver.back ≤ length list
  back_there = let o = (k.lawful.lawful.order b.driver.seen ([], append-nil b.driver.seen)).told in let h = k.lawful.behind in omega arith

  pub settled_length : length (settled b) ≡ b.driver.back - length b.held
  settled_length = let h = back_there in take_length (b.driver.back - length b.held) list (omega arith)

  -- the entries that are settled, then the held ones, and then the others
  all_parts : (others : List Desc) × (settled b ++ (b.held ++ others) ≡ real ++ rest)
  all_parts = (drop b.driver.back list, sym (append_assoc (settled b) b.held (drop b.driver.back list)) ∙ ap (λ (z : List Desc). z ++ drop b.driver.back list) (sym k.held) ∙ sym (take_drop b.driver.back list) ∙ sees)

  -- where the list has settled less, one entry more of the real ones stands next
  module _ (less : length (settled b) < length real) where
    next_entry : (x : Desc) × (xs : List Desc) × (real ≡ settled b ++ x ∷ xs) × (b.held ++ all_parts.0 ≡ (x ∷ xs) ++ rest)
    next_entry =
        let t = two_fronts real rest (settled b) (b.held ++ all_parts.0) (sym all_parts.1) (omega arith) in
        some_entry t.0 t.1 t.2
      where
        some_entry : (mid : List Desc) → real ≡ settled b ++ mid → b.held ++ all_parts.0 ≡ mid ++ rest → (x : Desc) × (xs : List Desc) × (real ≡ settled b ++ x ∷ xs) × (b.held ++ all_parts.0 ≡ (x ∷ xs) ++ rest)
        some_entry [] e f = let l = ap length e in let a = length-append (settled b) [] in absurd (omega arith)
        some_entry (x ∷ xs) e f = (x, xs, e, f)

    abbrev mid : List Desc
    mid = next_entry.0 ∷ next_entry.1

    mid_ends : open_after 0 mid ≡ 0
    mid_ends = ap (λ (z : ℕ). open_after z mid) (sym k.ends) ∙ sym (open_append 0 (settled b) mid) ∙ ap (open_after 0) (sym next_entry.2) ∙ ends

    frames_are : frames_of real ≡ frames_of (settled b) ++ frames_of mid
    frames_are = ap frames_of next_entry.2 ∙ frames_both (settled b) mid k.ends

    -- it has delivered fewer frames than there are
    pub fewer : b.delivered < length (frames_of real)
    fewer = let s = some_frames [] 0 next_entry.0 next_entry.1 mid_ends in let f = ap length frames_are in let a = length-append (frames_of (settled b)) (frames_of mid) in
        let d = k.delivered in let n = filled_few (frames_of (settled b)) in omega arith

    -- and no more than there are filled ones
    pub no_more : b.delivered ≤ length (filled_of (frames_of real))
    no_more = let f = ap (λ (z : List (List Desc)). length (filled_of z)) frames_are in let g = ap length (filled_append (frames_of (settled b)) (frames_of mid)) in
        let a = length-append (delivered_of b) (filled_of (frames_of mid)) in let d = k.delivered in omega arith

    -- it has not caught up
    pub not_caught_up : IsCaughtUp b → ⊥
    not_caught_up c = let l = settled_length in let h = ap length c.0 in let t = c.1 in let s = ap length sees in let a = length-append real rest in absurd (omega arith)

    -- the next frame is among the real ones
    held_mid : IsWholeFrame b.held → (more : List Desc) × (mid ≡ b.held ++ more)
    held_mid w = by_length (by_order (length b.held) (length mid))
      where
        by_order : (m n : ℕ) → (m ≤ n) ⊎ (n < m)
        by_order zero n = inl (omega arith)
        by_order (suc m) zero = inr (omega arith)
        by_order (suc m) (suc n) = elim (by_order m n) as (λ _. (suc m ≤ suc n) ⊎ (suc n < suc m)) [ inl h ↦ inl (omega arith) | inr h ↦ inr (omega arith) ]

        no_part : (more : List Desc) → b.held ≡ mid ++ more → length mid < length b.held → ⊥
        no_part [] e h = let l = ap length e in let a = length-append mid [] in absurd (omega arith)
        no_part (y ∷ ys) e h = let o = whole_front 0 mid y ys (subst IsWholeFrame e w) in let m = mid_ends in let l : 0 < length mid = omega arith in absurd (omega arith)

        by_length : (length b.held ≤ length mid) ⊎ (length mid < length b.held) → (more : List Desc) × (mid ≡ b.held ++ more)
        by_length (inl h) = let t = two_fronts mid rest b.held all_parts.0 (sym next_entry.3) h in (t.0, t.1)
        by_length (inr h) = let t = two_fronts b.held all_parts.0 mid rest next_entry.3 (omega arith) in absurd (no_part t.0 t.1 h)

    -- so there is room for its record
    pub has_room : records (filled_of (frames_of real)) ≤ b.host.room → HasNoRoom b → ⊥
    has_room room n =
        let m = held_mid n.0 in let more : List Desc = m.0 in
        let held_frames : frames_of mid ≡ b.held ∷ frames_of more =
        ap frames_of m.1 ∙ frames_both b.held more (whole_open 0 b.held n.0) ∙ ap (λ (z : List (List Desc)). z ++ frames_of more) (frame_alone [] b.held n.0) in
        let filled : filled_of (frames_of real) ≡ delivered_of b ++ b.held ∷ filled_of (frames_of more) =
        ap filled_of (frames_are ∙ ap (λ (z : List (List Desc)). frames_of (settled b) ++ z) held_frames) ∙ filled_append (frames_of (settled b)) (b.held ∷ frames_of more)
        ∙ ap (λ (z : Bool). delivered_of b ++ cond z (b.held ∷ filled_of (frames_of more)) (filled_of (frames_of more))) n.1 in
        let a = ap records filled in let c = records_append (delivered_of b) (b.held ∷ filled_of (frames_of more)) in let d = records_first b.held (filled_of (frames_of more)) in
        let h = ap length k.host in let w = written_length (delivered_of b) in let l = n.2 in
        absurd (omega arith)

-- after a call that was to deliver as many frames as can be new, all are settled
pub settles_all : (burst n : ℕ) (a b : FreeSees) → IsFreeList b → Delivers a burst n b → (real rest : List Desc) → sent Device b.driver.seen ≡ real ++ rest → open_after 0 real ≡ 0
    → (length (settled b) < length real → b.delivered < a.delivered + burst) → records (filled_of (frames_of real)) ≤ b.host.room → (more : List Desc) × (settled b ≡ real ++ more)
settles_all burst n a b k d real rest sees ends few room = by_order (order (length real) (length (settled b)))
  where
    order : (i j : ℕ) → (i ≤ j) ⊎ (j < i)
    order zero j = inl (omega arith)
    order (suc i) zero = inr (omega arith)
    order (suc i) (suc j) = elim (order i j) as (λ _. (suc i ≤ suc j) ⊎ (suc j < suc i)) [ inl h ↦ inl (omega arith) | inr h ↦ inr (omega arith) ]

    stopped : (less : length (settled b) < length real) → n < burst → ⊥
    stopped less h = elim (d.less h) as (λ _. ⊥) [ inl c ↦ not_caught_up b k real rest sees ends less c | inr f ↦ has_room b k real rest sees ends less room f ]

    none_left : length (settled b) < length real → ⊥
    none_left less = elim (order burst n) as (λ _. ⊥) [ inl h ↦ (let f = few less in let c = d.count in absurd (omega arith)) | inr h ↦ stopped less h ]

    by_order : (length real ≤ length (settled b)) ⊎ (length (settled b) < length real) → (more : List Desc) × (settled b ≡ real ++ more)
    by_order (inl h) = let p = all_parts b k real rest sees ends in let t = two_fronts (settled b) (b.held ++ p.0) real rest p.1 h in (t.0, t.1)
    by_order (inr h) = absurd (none_left h)
