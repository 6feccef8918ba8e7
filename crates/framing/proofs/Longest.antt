-- What a scan hands back is the longest prefix made of whole frames: it is made of them, as many as it says; no longer
-- prefix is; and at its end stands the log's end, or the reason that it gives. Assumes nothing.
use Prim.Native.Nat.{ℕ, zero, suc, ◌+◌, ◌-◌, ◌≤◌, ◌<◌, zero-le}
use mathlib.Core.Path.{◌≡◌, refl, sym, ap, ap₂, ◌∙◌, subst}
use mathlib.Core.List.{List, [], ◌∷◌, ◌++◌, append_assoc, append-nil}
use mathlib.Core.Logic.{◌⊎◌, inl, inr}
use native.Mathlib.Omega.{arith}
use native.Mathlib.Nat.{add_assoc, add-zero, zero-add}
use lib.ListN.{length, take, drop, length-append, length-drop, take-append-drop}
use lib.Seq.{length-take-le, drop-append_seam, take-add, drop-drop}
use Rattle.framing.specs.Front.{Front, Whole, Stop, front_of}
use Rattle.framing.specs.Scan.{Scan, none, ahead, scan_of, Scanned}
use Rattle.answer.specs.Answers.{not_a_frame, cut_short}
use Rattle.framing.proofs.Fronts.{reason}
use Rattle.framing.proofs.Whole.{is_whole, whole_is, whole_bounds, whole_before, whole_alone}
use Rattle.framing.proofs.Scans.{scan_end, scan_stop, scan_whole}

-- a whole frame, and nothing behind it
pub record IsFrame (f : List ℕ) : Type 0 where
  pub kind : ℕ
  pub whole : front_of f ≡ Whole kind (length f)

-- each of them is a whole frame
abbrev pub AllFrames : List (List ℕ) → Type 0
AllFrames [] = Unit {0}
AllFrames (f ∷ fs) = IsFrame f × AllFrames fs

-- one after the other
abbrev pub joined : List (List ℕ) → List ℕ
joined [] = []
joined (f ∷ fs) = f ++ joined fs

ahead_ahead : (t k u m : ℕ) (r : Scan) → ahead t k (ahead u m r) ≡ ahead (t + u) (k + m) r
ahead_ahead t k u m r = simp (← add_assoc)

-- whole frames at the front of a log are scanned, every one, and then what follows them
pub scan_joined : (fs : List (List ℕ)) (rest : List ℕ) → AllFrames fs → scan_of (joined fs ++ rest) ≡ ahead (length (joined fs)) (length fs) (scan_of rest)
scan_joined [] rest w = simp zero-add
scan_joined (f ∷ fs) rest (w, ws) =
    let first : front_of (f ++ (joined fs ++ rest)) ≡ Whole w.kind (length f) = whole_is _ _ _ (whole_before f (joined fs ++ rest) w.kind (length f) (is_whole _ _ _ w.whole)) in
    ap scan_of (append_assoc f (joined fs) rest)
    ∙ scan_whole (f ++ (joined fs ++ rest)) w.kind (length f) first
    ∙ ap (λ s. ahead (length f) 1 (scan_of s)) (drop-append_seam f (joined fs ++ rest))
    ∙ ap (ahead (length f) 1) (scan_joined fs rest ws)
    ∙ ahead_ahead (length f) 1 (length (joined fs)) (length fs) (scan_of rest)
    ∙ ap₂ (λ t k. ahead t k (scan_of rest)) (sym (length-append f (joined fs))) (omega arith)

-- a log that is whole frames and nothing else: all its bytes, as many frames, stop 0
pub all_frames : (fs : List (List ℕ)) → AllFrames fs → scan_of (joined fs) ≡ record { taken = length (joined fs); frames = length fs; stop = 0 }
all_frames fs w =
    ap scan_of (sym (append-nil (joined fs))) ∙ scan_joined fs [] w ∙ ap (ahead (length (joined fs)) (length fs)) (scan_end [] refl)
    ∙ simp add-zero

-- no longer prefix is made of whole frames
pub longest : (log : List ℕ) (n : ℕ) (fs : List (List ℕ)) → n ≤ length log → AllFrames fs → joined fs ≡ take n log → n ≤ (scan_of log).taken
longest log n fs h w e =
    let split : joined fs ++ drop n log ≡ log = ap (λ s. s ++ drop n log) e ∙ take-append-drop n log in
    let long : length (joined fs) ≡ n = ap length e ∙ length-take-le n log h in
    let found = ap (λ r. r.taken) (ap scan_of (sym split) ∙ scan_joined fs (drop n log) w) in
    omega arith

-- why a scan stops where it does: the log ends there, or what stands there is no whole frame, for the reason given
abbrev pub Stops : List ℕ → ℕ → Type 0
Stops rest stop = ((rest ≡ []) × (stop ≡ 0)) ⊎ ((0 < length rest) × (front_of rest ≡ Stop stop))

-- what is handed back is whole frames, as many as are counted, and what follows it is why there is no more
pub record Found (log : List ℕ) (r : Scan) : Type 0 where
  pub parts : List (List ℕ)
  pub whole : AllFrames parts
  pub prefix : joined parts ≡ take r.taken log
  pub count : length parts ≡ r.frames
  pub inside : r.taken ≤ length log
  pub reason : Stops (drop r.taken log) r.stop

-- no frame at the front
none_found : (s : List ℕ) (r : ℕ) → Stops s r → Found s (none r)
none_found s r h = record { parts = []; whole = tt; prefix = refl; count = refl; inside = zero-le; reason = h }

-- a frame at the front, and what was found behind it
one_more : (s : List ℕ) (kind taken : ℕ) (r : Scan) → front_of s ≡ Whole kind taken → Found (drop taken s) r → Found s (ahead taken 1 r)
one_more s kind taken r e found =
    let w = is_whole s kind taken e in
    let long : length (take taken s) ≡ taken = length-take-le taken s w.inside in
    let alone : front_of (take taken s) ≡ Whole kind taken = whole_is _ _ _ (whole_alone s kind taken w) in
    let left : r.taken ≤ length s - taken = rw length-drop at found.inside in
    let within : taken ≤ length s = w.inside in
    record {
      parts = take taken s ∷ found.parts;
      whole = (record { kind = kind; whole = alone ∙ ap (Whole kind) (sym long) }, found.whole);
      prefix = ap (λ x. take taken s ++ x) found.prefix ∙ sym (take-add taken r.taken s);
      count = omega (arith, found.count);
      inside = omega arith;
      reason = subst (λ x. Stops x r.stop) (drop-drop r.taken taken s) found.reason;
    }

by_front : (n x : ℕ) (s : List ℕ) → ((u : List ℕ) → length u ≤ n → Found u (scan_of u)) → length s ≤ n → (f : Front) → front_of (x ∷ s) ≡ f → Found (x ∷ s) (scan_of (x ∷ s))
by_front n x s ih h (Stop r) e = subst (Found (x ∷ s)) (sym (scan_stop (x ∷ s) (omega arith) r e)) (none_found (x ∷ s) r (inr (omega arith, e)))
by_front n x s ih h (Whole kind taken) e =
    let b = whole_bounds _ _ _ (is_whole (x ∷ s) kind taken e) in
    subst (Found (x ∷ s)) (sym (scan_whole (x ∷ s) kind taken e)) (one_more (x ∷ s) kind taken (scan_of (drop taken (x ∷ s))) e (ih (drop taken (x ∷ s)) (rw length-drop (omega arith))))

nothing_found : Found [] (scan_of [])
nothing_found = subst (Found []) (sym (scan_end [] refl)) (none_found [] 0 (inl (refl, refl)))

found_in : (n : ℕ) (s : List ℕ) → length s ≤ n → Found s (scan_of s)
found_in zero [] h = nothing_found
found_in zero (x ∷ s) h = absurd (omega arith)
found_in (suc n) [] h = nothing_found
found_in (suc n) (x ∷ s) h = by_front n x s (found_in n) (omega arith) (front_of (x ∷ s)) refl

pub found : (log : List ℕ) → Found log (scan_of log)
found log = found_in (length log) log (omega arith)

-- the stop reason is 0, and then every byte is in the prefix, or 9 to 12
pub stop_numbers : (log : List ℕ) → (((scan_of log).stop ≡ 0) × ((scan_of log).taken ≡ length log)) ⊎ ((not_a_frame ≤ (scan_of log).stop) × ((scan_of log).stop ≤ cut_short))
stop_numbers log = by (found log).reason
  where
    by : Stops (drop (scan_of log).taken log) (scan_of log).stop → (((scan_of log).stop ≡ 0) × ((scan_of log).taken ≡ length log)) ⊎ ((not_a_frame ≤ (scan_of log).stop) × ((scan_of log).stop ≤ cut_short))
    by (inl (e, z)) = inl (z, let l : length log - (scan_of log).taken ≡ 0 = rw length-drop at (ap length e) in let i = (found log).inside in omega arith)
    by (inr (h, e)) = let r = reason (drop (scan_of log).taken log) (scan_of log).stop e in inr (r.1, r.2)

-- the call: the part that it hands back begins the log, is made of whole frames, as many as it says, and what follows is why there is no more
pub handed_back : (log part : List ℕ) (frames stop : ℕ) → Scanned log part frames stop
    → (part ≡ take (length part) log) × Found log (record { taken = length part; frames = frames; stop = stop })
handed_back log part frames stop s =
    let long : length part ≡ (scan_of log).taken = ap length s.part_is ∙ length-take-le (scan_of log).taken log (found log).inside in (
      s.part_is ∙ ap (λ n. take n log) (sym long),
      subst (Found log) (λ i. record { taken = sym long i; frames = sym s.frames_is i; stop = sym s.stop_is i }) (found log),
    )

-- and where no frame stands at the front it hands back nothing and counts nothing, for that reason
pub nothing_handed_back : (log part : List ℕ) (frames stop r : ℕ) → Scanned log part frames stop → 0 < length log → front_of log ≡ Stop r → (part ≡ []) × (frames ≡ 0) × (stop ≡ r)
nothing_handed_back log part frames stop r s h e =
    let none_is = scan_stop log h r e in
    (s.part_is ∙ ap (λ x. take x.taken log) none_is, s.frames_is ∙ ap (λ x. x.frames) none_is, s.stop_is ∙ ap (λ x. x.stop) none_is)
