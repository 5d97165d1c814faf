-- The sizes of the captures, sender by sender.
use Rattle.std.proofs.Common.{◌≡◌, ℕ, ◌*◌, List, [], ◌∷◌, map, length, refl, ap}
use Rattle.std.specs.List.{range_with_len}
use Rattle.std.proofs.lemmas.List.FromFn.{length-map-range_with_len}
use Rattle.ifl_pcap.specs.declared.frame.Frame.{Frame}
use Rattle.ifl_pcap.specs.File.{written}
use Rattle.ifl_gen.specs.declared.traffic.Traffic.{Traffic}
use Rattle.ifl_gen.specs.Frames.{frame_of, captured, generated}
use Rattle.ifl_gen.specs.Measure.{frame_count, sizes}
use Rattle.ifl_gen.proofs.Ranges.{sum_by-length-same}

-- how many bytes the file of a sender's capture has
abbrev pub size : Traffic → ℕ → ℕ
size t sender = length (written (captured t sender))

map-map : {A B C : Type 0} (g : B → C) (f : A → B) (xs : List A) → map g (map f xs) ≡ map (λ x. g (f x)) xs
map-map g f [] = refl
map-map {C = C} g f (x ∷ xs) = ap (λ (r : List C). g (f x) ∷ r) (map-map g f xs)

pub sizes-by-sender : (t : Traffic) → sizes t ≡ map (size t) (range_with_len 0 t.senders)
unfolding generated
sizes-by-sender t = map-map (λ (frames : List Frame). length (written frames)) (captured t) (range_with_len 0 t.senders)

pub frame_count-product : (t : Traffic) → frame_count t ≡ t.senders * t.frames
unfolding generated
frame_count-product t = sum_by-length-same (captured t) t.frames 0 t.senders (λ s. length-map-range_with_len (frame_of t.seed s) 0 t.frames)
