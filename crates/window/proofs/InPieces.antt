-- A reader that is given a log in pieces of any size reports exactly the frames of the scan of the whole log, and its stop
-- reason; and when it asks for more it holds less than the longest frame, so that a window of that size is enough. Assumes nothing.
use Prim.Native.Nat.{ℕ, zero, suc, ◌+◌, ◌≤◌, ◌<◌}
use mathlib.Core.Path.{◌≡◌, refl, sym, ap, ◌∙◌, subst}
use mathlib.Core.Bool.{Bool, true, false, cond}
use mathlib.Core.List.{List, [], ◌∷◌, ◌++◌, append_assoc, append-nil}
use native.Mathlib.Omega.{arith}
use borrow.Author.Tests.{eqb-true, eqb-false}
use lib.Dec.{eqb}
use lib.ListN.{length, take, drop, length-append, length-drop}
use lib.Seq.{take-append-le, drop-append-le, length-take-le, take-add}
use Rattle.answer.specs.Answers.{cut_short}
use Rattle.framing.specs.Kinds.{longest_frame}
use Rattle.framing.specs.Front.{Whole, Stop, front_of}
use Rattle.framing.specs.Scan.{Scan, none, ahead, scan_of}
use Rattle.framing.proofs.Fronts.{no_mark}
use Rattle.framing.proofs.Whole.{IsWhole, whole_is, whole_bounds, whole_before, whole_alone}
use Rattle.framing.proofs.Scans.{scan_end, scan_stop, scan_whole}
use Rattle.framing.proofs.Longest.{AllFrames, joined}
use Rattle.window.specs.Step.{Step, Frame, More, End, step_of}
use Rattle.window.specs.Reader.{Report, ended, before, Going, on_step, go_on, reported}
use Rattle.window.proofs.Steps.{nothing_held, some_held, stops_anyhow}
use Rattle.window.proofs.Views.{View, cut, wrong, frame, view}

-- the report is the scan's: whole frames, one after the other the prefix that the scan hands back, as many as it counts, and its reason
pub record Reports (log : List ℕ) (r : Report) : Type 0 where
  pub whole : AllFrames r.frames
  pub prefix : joined r.frames ≡ take (scan_of log).taken log
  pub count : length r.frames ≡ (scan_of log).frames
  pub reason : r.stop ≡ (scan_of log).stop

-- no frame
reports_end : (log : List ℕ) (r : ℕ) → scan_of log ≡ none r → Reports log (ended r)
reports_end log r e =
    record {
      whole = tt;
      prefix = sym (ap (λ (x : Scan). take x.taken log) e);
      count = sym (ap (λ (x : Scan). x.frames) e);
      reason = sym (ap (λ (x : Scan). x.stop) e);
    }

-- a frame, and the report of what follows it
reports_frame : (log : List ℕ) (kind taken : ℕ) (r : Report) → IsWhole log kind taken → Reports (drop taken log) r → Reports log (before (take taken log) r)
reports_frame log kind taken r w rest =
    let e : scan_of log ≡ ahead taken 1 (scan_of (drop taken log)) = scan_whole log kind taken (whole_is log kind taken w) in
    let l : length (take taken log) ≡ taken = length-take-le taken log w.inside in
    let f : front_of (take taken log) ≡ Whole kind (length (take taken log)) = whole_is (take taken log) kind taken (whole_alone log kind taken w) ∙ ap (Whole kind) (sym l) in
    record {
      whole = (record { kind = kind; whole = f }, rest.whole);
      prefix =
          ap (λ (x : List ℕ). take taken log ++ x) rest.prefix
          ∙ sym (take-add taken (scan_of (drop taken log)).taken log)
          ∙ sym (ap (λ (x : Scan). take x.taken log) e);
      count = ap suc rest.count ∙ omega arith ∙ sym (ap (λ (x : Scan). x.frames) e);
      reason = rest.reason ∙ sym (ap (λ (x : Scan). x.stop) e);
    }

-- the step, by what the bytes at hand say
pos_of : (s : List ℕ) → (length s ≡ 0 → ⊥) → 0 < length s
pos_of [] h = absurd (h refl)
pos_of (b ∷ s) h = omega arith

not_empty : (held : List ℕ) (r : ℕ) → (r ≡ cut_short → ⊥) → front_of held ≡ Stop r → length held ≡ 0 → ⊥
not_empty held r h e z =
    let p : Stop r ≡ Stop cut_short = sym e ∙ sym (no_mark held (omega arith)) in
    h (cc)

step_frame : (last : Bool) (held : List ℕ) (kind taken : ℕ) → IsWhole held kind taken → Frame kind taken ≡ step_of last held
step_frame last held kind taken w =
    let b = whole_bounds held kind taken w in
    let i = w.inside in
    some_held last held (Whole kind taken) (λ z. omega arith) (sym (whole_is held kind taken w))

step_wrong : (last : Bool) (held : List ℕ) (r : ℕ) → (r ≡ cut_short → ⊥) → front_of held ≡ Stop r → End r ≡ step_of last held
step_wrong true held r h e = some_held true held (Stop r) (not_empty held r h e) (sym e)
step_wrong false held r h e = stops_anyhow false r refl h ∙ some_held false held (Stop r) (not_empty held r h e) (sym e)

step_more : (held : List ℕ) → front_of held ≡ Stop cut_short → More ≡ step_of false held
step_more held e = by_test (eqb (length held) 0) refl
  where
    by_test : (b : Bool) → eqb (length held) 0 ≡ b → More ≡ step_of false held
    by_test true z = nothing_held false held (eqb-true (length held) 0 z)
    by_test false z = some_held false held (Stop cut_short) (eqb-false (length held) 0 z) (sym e)

-- the last bytes: the exact end, or a frame that is cut
at_end : (held : List ℕ) → front_of held ≡ Stop cut_short → (go : Going) → Reports held (on_step go (step_of true held) true held [])
at_end held e go = by_test (eqb (length held) 0) refl
  where
    by_test : (b : Bool) → eqb (length held) 0 ≡ b → Reports held (on_step go (step_of true held) true held [])
    by_test true z =
        let h = eqb-true (length held) 0 z in
        subst (λ (s : Step). Reports held (on_step go s true held [])) (nothing_held true held h) (reports_end held 0 (scan_end held h))
    by_test false z =
        let h = eqb-false (length held) 0 z in
        subst (λ (s : Step). Reports held (on_step go s true held [])) (some_held true held (Stop cut_short) h (sym e))
        (reports_end held cut_short (scan_stop held (omega arith) cut_short e))

-- what is left to do: bytes, pieces, and to learn that there are no more
abbrev left : Bool → List ℕ → List (List ℕ) → ℕ
left last held pieces = length (held ++ joined pieces) + length pieces + cond last 0 1

-- a reader that goes on from each state with less to do reports what it should
abbrev Right : ℕ → Going → Type 0
Right n go = (last : Bool) (held : List ℕ) (pieces : List (List ℕ)) → (last ≡ true → pieces ≡ []) → left last held pieces < n → Reports (held ++ joined pieces) (go last held pieces)

module _ (n : ℕ) (go : Going) (right : Right n go) (held : List ℕ) where
  on_frame : (last : Bool) (pieces : List (List ℕ)) (kind taken : ℕ) → (last ≡ true → pieces ≡ []) → left last held pieces < suc n → IsWhole held kind taken
      → Reports (held ++ joined pieces) (before (take taken held) (go last (drop taken held) pieces))
  on_frame last pieces kind taken end few w =
      let b = whole_bounds held kind taken w in
      let inside = w.inside in
      let less : left last (drop taken held) pieces < n = omega (arith, length-append (drop taken held) (joined pieces), length-drop taken held, length-append held (joined pieces)) in
      let next : Report = go last (drop taken held) pieces in
      subst (λ (f : List ℕ). Reports (held ++ joined pieces) (before f next)) (take-append-le taken held (joined pieces) inside)
      (reports_frame (held ++ joined pieces) kind taken next (whole_before held (joined pieces) kind taken w)
      (subst (λ (s : List ℕ). Reports s next) (sym (drop-append-le taken held (joined pieces) inside)) (right last (drop taken held) pieces end less)))

  on_cut : (last : Bool) (pieces : List (List ℕ)) → (last ≡ true → pieces ≡ []) → left last held pieces < suc n → front_of held ≡ Stop cut_short
      → Reports (held ++ joined pieces) (on_step go (step_of last held) last held pieces)
  on_cut true pieces end few e =
      subst (λ (ps : List (List ℕ)). Reports (held ++ joined ps) (on_step go (step_of true held) true held ps)) (sym (end refl))
      (subst (λ (s : List ℕ). Reports s (on_step go (step_of true held) true held [])) (sym (append-nil held)) (at_end held e go))
  on_cut false [] end few e =
      subst (λ (s : Step). Reports (held ++ []) (on_step go s false held [])) (step_more held e) (right true held [] (λ z. refl) (omega arith))
  on_cut false (p ∷ ps) end few e =
      let same : (held ++ p) ++ joined ps ≡ held ++ (p ++ joined ps) = append_assoc held p (joined ps) in
      subst (λ (s : Step). Reports (held ++ (p ++ joined ps)) (on_step go s false held (p ∷ ps))) (step_more held e)
      (subst (λ (s : List ℕ). Reports s (go false (held ++ p) ps)) same
      (right false (held ++ p) ps (λ z. absurd (let y : ◌≡◌ {A = ℕ} 0 1 = cc in omega arith)) (omega (arith, ap length same))))

  by_view : View held → (last : Bool) (pieces : List (List ℕ)) → (last ≡ true → pieces ≡ []) → left last held pieces < suc n
      → Reports (held ++ joined pieces) (on_step go (step_of last held) last held pieces)
  by_view (cut e short) last pieces end few = on_cut last pieces end few e
  by_view (wrong r h e) last pieces end few =
      let here : front_of held ≡ Stop r = ap front_of (sym (append-nil held)) ∙ e [] in
      let some : length held ≡ 0 → ⊥ = not_empty held r h here in
      subst (λ (s : Step). Reports (held ++ joined pieces) (on_step go s last held pieces)) (step_wrong last held r h here)
      (reports_end (held ++ joined pieces) r (scan_stop (held ++ joined pieces) (omega (arith, length-append held (joined pieces), pos_of held some)) r (e (joined pieces))))
  by_view (frame kind taken w) last pieces end few =
      subst (λ (s : Step). Reports (held ++ joined pieces) (on_step go s last held pieces)) (step_frame last held kind taken w) (on_frame last pieces kind taken end few w)

right_for : (n : ℕ) → Right n (go_on n)
unfolding go_on
right_for zero last held pieces end few = absurd (omega arith)
right_for (suc n) last held pieces end few = by_view n (go_on n) (right_for n) held (view held) last pieces end few

-- the theorem: a log in pieces, and steps enough for its bytes and its pieces
pub in_pieces : (n : ℕ) (pieces : List (List ℕ)) → length (joined pieces) + length pieces + 1 < n → Reports (joined pieces) (reported n pieces)
in_pieces n pieces few = right_for n false [] pieces (λ z. absurd (let y : ◌≡◌ {A = ℕ} 0 1 = cc in omega arith)) few

-- more is asked for only where less than the longest frame is held
pub more_has_room : (last : Bool) (held : List ℕ) → step_of last held ≡ More → length held < longest_frame
more_has_room last held e = by (view held)
  where
    by : View held → length held < longest_frame
    by (cut f short) = short
    by (wrong r h f) =
        let here : front_of held ≡ Stop r = ap front_of (sym (append-nil held)) ∙ f [] in
        absurd (let z : ◌≡◌ {A = ℕ} 0 1 = cc (step_wrong last held r h here) in omega arith)
    by (frame kind taken w) = absurd (let z : ◌≡◌ {A = ℕ} 0 1 = cc (step_frame last held kind taken w) in omega arith)

-- so a window that can hold the longest frame of the table has room whenever more is asked for
pub window_has_room : (window : ℕ) → longest_frame ≤ window → (last : Bool) (held : List ℕ) → step_of last held ≡ More → length held < window
window_has_room window fits last held e = let less = more_has_room last held e in omega arith

-- the last bytes decide: where a frame is cut there, the reader stops
step_last : (held : List ℕ) → front_of held ≡ Stop cut_short → (r : ℕ) × (End r ≡ step_of true held)
step_last held e = by_test (eqb (length held) 0) refl
  where
    by_test : (b : Bool) → eqb (length held) 0 ≡ b → (r : ℕ) × (End r ≡ step_of true held)
    by_test true z = (0, nothing_held true held (eqb-true (length held) 0 z))
    by_test false z = (cut_short, some_held true held (Stop cut_short) (eqb-false (length held) 0 z) (sym e))

pub last_decides : (held : List ℕ) → step_of true held ≡ More → ⊥
last_decides held e = by (view held)
  where
    by : View held → ⊥
    by (cut f short) = let z : ◌≡◌ {A = ℕ} 0 1 = cc (step_last held f).1 in omega arith
    by (wrong r h f) =
        let here : front_of held ≡ Stop r = ap front_of (sym (append-nil held)) ∙ f [] in
        let z : ◌≡◌ {A = ℕ} 0 1 = cc (step_wrong true held r h here) in
        omega arith
    by (frame kind taken w) = let z : ◌≡◌ {A = ℕ} 0 1 = cc (step_frame true held kind taken w) in omega arith

-- a frame is reported only where it stands whole
not_cut : (last : Bool) (held : List ℕ) (kind taken : ℕ) → front_of held ≡ Stop cut_short → Frame kind taken ≡ step_of last held → ⊥
not_cut true held kind taken f e = let z : ◌≡◌ {A = ℕ} 0 1 = cc (step_last held f).1 in omega arith
not_cut false held kind taken f e = let z : ◌≡◌ {A = ℕ} 0 1 = cc (step_more held f) in omega arith

pub reported_whole : (last : Bool) (held : List ℕ) (kind taken : ℕ) → Frame kind taken ≡ step_of last held → IsWhole held kind taken
reported_whole last held kind taken e = by (view held)
  where
    by : View held → IsWhole held kind taken
    by (cut f short) = absurd (not_cut last held kind taken f e)
    by (wrong r h f) =
        let here : front_of held ≡ Stop r = ap front_of (sym (append-nil held)) ∙ f [] in
        absurd (let z : ◌≡◌ {A = ℕ} 0 1 = cc (step_wrong last held r h here) in omega arith)
    by (frame k t w) =
        let same : Frame kind taken ≡ Frame k t = e ∙ sym (step_frame last held k t w) in
        let p : k ≡ kind = cc in
        let q : t ≡ taken = cc in
        subst (λ (x : ℕ). IsWhole held x taken) p (subst (λ (x : ℕ). IsWhole held k x) q w)
