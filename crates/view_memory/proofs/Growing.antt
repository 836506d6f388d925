-- Buffers that texts are added to: what lies in them stays where it is.
use Rattle.std.proofs.Common.{◌≡◌, ℕ, ◌+◌, ◌-◌, ◌<◌, ◌≤◌, false, eqb, ltb, List, [], ◌++◌, length, get_or, take, drop, sym, refl, ap, ◌∙◌, inl, inr, append_assoc, arith}
use Rattle.std.proofs.lemmas.List.{length-append, length-take, length-take-le, length-drop, length_push, take_all, take-take, take-append-le, drop_at, drop-append-le, drop_all, append-nil, get_or-take, get_or_push}
use Rattle.std.proofs.lemmas.Bool.{cases_Bool, cases_eq, cases_lt, cond-true, cond-false, ne_eqb, eqb-false, ltb-false, or_parts}
use Rattle.views.specs.Layout.{Data, LiesIn, part, buffer_start, buffer_end}
use Rattle.view_memory.specs.Layout.{nothing, filled, opens, buffer_for, offset_for, with_text}

-- where a buffer begins depends on the ends before it alone
pub start_zero : (ends : List ℕ) → buffer_start ends 0 ≡ 0
unfolding buffer_start
start_zero ends = refl

pub start_at : (ends : List ℕ) (b : ℕ) → 0 < b → buffer_start ends b ≡ get_or ends (b - 1) 0
unfolding buffer_start
start_at ends b h = cond-false (eqb b 0) 0 (get_or ends (b - 1) 0) (ne_eqb b 0 (λ e. omega arith))

pub start_same : (xs ys : List ℕ) (b : ℕ) → take b xs ≡ take b ys → buffer_start xs b ≡ buffer_start ys b
start_same xs ys b e =
    elim (cases_eq b 0) [
      | inl z ↦ ap (buffer_start xs) z ∙ (start_zero xs ∙ (sym (start_zero ys) ∙ ap (buffer_start ys) (sym z)))
      | inr z ↦
          let h : b - 1 < b = omega arith in
          let x : get_or (take b xs) (b - 1) 0 ≡ get_or xs (b - 1) 0 = get_or-take b xs (b - 1) 0 h in
          let y : get_or (take b ys) (b - 1) 0 ≡ get_or ys (b - 1) 0 = get_or-take b ys (b - 1) 0 h in
          start_at xs b (omega arith) ∙ (sym x ∙ (ap (λ zs. get_or zs (b - 1) 0) e ∙ (y ∙ sym (start_at ys b (omega arith)))))
    ]

-- ends that rise and stay within the bytes, the last one at their end
pub record Ordered (d : Data) : Type 0 where
  pub whole : buffer_start d.ends (length d.ends) ≡ length d.bytes
  pub rise : (b : ℕ) → b < length d.ends → buffer_start d.ends b ≤ buffer_end d.ends b
  pub within : (b : ℕ) → b < length d.ends → buffer_end d.ends b ≤ length d.bytes

pub none_ordered : Ordered nothing
none_ordered = record { whole = start_zero []; rise = λ b h. absurd (omega arith); within = λ b h. absurd (omega arith) }

-- buffers that hold what others hold, where they hold it
pub record Grows (d e : Data) : Type 0 where
  pub more : length d.ends ≤ length e.ends
  pub same : take (length d.ends - 1) e.ends ≡ take (length d.ends - 1) d.ends
  pub later : (b : ℕ) → b < length d.ends → buffer_end d.ends b ≤ buffer_end e.ends b
  pub longer : e.bytes ≡ d.bytes ++ drop (length d.bytes) e.bytes

pub grows_same : (d : Data) → Grows d d
grows_same d =
    record {
      more = omega arith;
      same = refl;
      later = λ b h. omega arith;
      longer = sym (ap (λ z. d.bytes ++ z) (drop_all (length d.bytes) d.bytes (omega arith)) ∙ append-nil d.bytes);
    }

-- behind bytes that are the same
longer_by : (xs ys zs : List ℕ) → ys ≡ xs ++ zs → ys ≡ xs ++ drop (length xs) ys
longer_by xs ys zs e = e ∙ ap (λ z. xs ++ z) (sym (ap (drop (length xs)) e ∙ drop_at xs zs (length xs) refl))

pub grows_on : (d e f : Data) → Grows d e → Grows e f → Grows d f
grows_on d e f g h =
    let a = g.more in
    let b = h.more in
    let n : ℕ = length d.ends - 1 in
    let m : ℕ = length e.ends - 1 in
    let le : n ≤ m = omega arith in
    let s : take n f.ends ≡ take n e.ends = sym (take-take n m f.ends le) ∙ (ap (take n) h.same ∙ take-take n m e.ends le) in
    let x : List ℕ = drop (length d.bytes) e.bytes in
    let y : List ℕ = drop (length e.bytes) f.bytes in
    record {
      more = omega arith;
      same = s ∙ g.same;
      later = λ k l. let p = g.later k l in let q = h.later k (omega arith) in omega arith;
      longer = longer_by d.bytes f.bytes (x ++ y) (h.longer ∙ (ap (λ z. z ++ y) g.longer ∙ append_assoc d.bytes x y));
    }

-- more bytes behind the last end
pub grows_padded : (d e : Data) (z : List ℕ) → e.ends ≡ d.ends → e.bytes ≡ d.bytes ++ z → Grows d e
grows_padded d e z p q =
    let l : length e.ends ≡ length d.ends = ap length p in
    record {
      more = omega arith;
      same = ap (take (length d.ends - 1)) p;
      later = λ b h. let g : buffer_end e.ends b ≡ buffer_end d.ends b = ap (λ x. buffer_end x b) p in omega arith;
      longer = longer_by d.bytes e.bytes z q;
    }

-- a text that lies in buffers lies in those that grow from them
pub lies_grown : (d e : Data) (t : List ℕ) (b o : ℕ) → 12 < length t → Grows d e → LiesIn d t b o → LiesIn e t b o
lies_grown d e t b o big g h =
    let m = g.more in
    let k = h.known in
    let w = h.within in
    let z = h.small in
    let f = g.later b k in
    let n : ℕ = length d.ends - 1 in
    let le : b ≤ n = omega arith in
    let same : take b e.ends ≡ take b d.ends = sym (take-take b n e.ends le) ∙ (ap (take b) g.same ∙ take-take b n d.ends le) in
    let s : buffer_start e.ends b ≡ buffer_start d.ends b = start_same e.ends d.ends b same in
    let p : ℕ = buffer_start d.ends b + o in
    let l : length (part p (length t) d.bytes) ≡ length t = ap length h.there in
    let c : length (take (length t) (drop p d.bytes)) ≡ length t = l in
    let a : length t ≤ length (drop p d.bytes) = let i = length-take (length t) (drop p d.bytes) in omega arith in
    let y : p ≤ length d.bytes = let i = length-drop p d.bytes in omega arith in
    let x : List ℕ = drop (length d.bytes) e.bytes in
    let r : part p (length t) e.bytes ≡ part p (length t) d.bytes =
    ap (part p (length t)) g.longer ∙ (ap (take (length t)) (drop-append-le p d.bytes x y) ∙ take-append-le (length t) (drop p d.bytes) x a) in
    let q : buffer_start e.ends b + o ≡ p = omega arith in
    record {
      known = omega arith;
      within = omega arith;
      small = z;
      there = ap (λ (i : ℕ). part i (length t) e.bytes) q ∙ (r ∙ h.there);
    }

-- A text behind what buffers hold: its buffer is a new one, or the last
module _ (d : Data) (o : Ordered d) (n : ℕ) where
  pub record Placed : Type 0 where
    pub least : length d.ends ≤ buffer_for d n + 1
    pub most : buffer_for d n ≤ length d.ends
    pub at : buffer_start d.ends (buffer_for d n) + offset_for d n ≡ length d.bytes
    pub small : n ≤ 2147483647 → offset_for d n + n ≤ 2147483647
    pub near : offset_for d n ≤ 8192

  pub last_open : opens d n ≡ false → (0 < length d.ends) × (filled d + n ≤ 8192)
  unfolding opens
  last_open h =
      let p = or_parts (eqb (length d.ends) 0) (ltb 8192 (filled d + n)) h in
      let a : length d.ends ≡ 0 → ⊥ = eqb-false (length d.ends) 0 p.0 in
      let b : filled d + n ≤ 8192 = ltb-false 8192 (filled d + n) p.1 in
      elim (cases_eq (length d.ends) 0) [ inl z ↦ absurd (a z) | inr z ↦ (omega arith, b) ]

  pub placed : Placed
  unfolding buffer_for offset_for
  placed =
      let w = o.whole in
      elim (cases_Bool (opens d n)) [
        | inl h ↦
            let b : buffer_for d n ≡ length d.ends = cond-true (opens d n) (length d.ends) (length d.ends - 1) h in
            let f : offset_for d n ≡ 0 = cond-true (opens d n) 0 (filled d) h in
            let s : buffer_start d.ends (buffer_for d n) ≡ length d.bytes = ap (buffer_start d.ends) b ∙ w in
            record { least = omega arith; most = omega arith; at = omega arith; small = λ l. omega arith; near = omega arith }
        | inr h ↦
            let b : buffer_for d n ≡ length d.ends - 1 = cond-false (opens d n) (length d.ends) (length d.ends - 1) h in
            let f : offset_for d n ≡ filled d = cond-false (opens d n) 0 (filled d) h in
            let l = last_open h in
            let i : length d.ends - 1 < length d.ends = let z = l.0 in omega arith in
            let r = o.rise (length d.ends - 1) i in
            let u = o.within (length d.ends - 1) i in
            let s : buffer_start d.ends (buffer_for d n) ≡ buffer_start d.ends (length d.ends - 1) = ap (buffer_start d.ends) b in
            let y = l.0 in
            let z = l.1 in
            record { least = omega arith; most = omega arith; at = omega arith; small = λ k. omega arith; near = omega arith }
      ]

-- the buffers with the text
module _ (d : Data) (o : Ordered d) (t : List ℕ) where
  front : (k : ℕ) → k ≤ buffer_for d (length t) → take k (with_text d t).ends ≡ take k d.ends
  unfolding with_text
  front k h =
      let p = placed d o (length t) in
      let m = p.most in
      let l : length (take (buffer_for d (length t)) d.ends) ≡ buffer_for d (length t) = length-take-le (buffer_for d (length t)) d.ends m in
      take-append-le k (take (buffer_for d (length t)) d.ends) _ (omega arith) ∙ take-take k (buffer_for d (length t)) d.ends h

  pub length_ends : length (with_text d t).ends ≡ buffer_for d (length t) + 1
  unfolding with_text
  length_ends =
      let p = placed d o (length t) in
      length_push (take (buffer_for d (length t)) d.ends) _ ∙ ap (λ n. n + 1) (length-take-le (buffer_for d (length t)) d.ends p.most)

  last_end : buffer_end (with_text d t).ends (buffer_for d (length t)) ≡ length d.bytes + length t
  unfolding with_text
  last_end =
      let p = placed d o (length t) in
      get_or_push (take (buffer_for d (length t)) d.ends) _ 0 (buffer_for d (length t)) (length-take-le (buffer_for d (length t)) d.ends p.most)

  other_end : (k : ℕ) → k < buffer_for d (length t) → buffer_end (with_text d t).ends k ≡ buffer_end d.ends k
  other_end k h =
      let x : get_or (take (k + 1) (with_text d t).ends) k 0 ≡ get_or (with_text d t).ends k 0 = get_or-take (k + 1) (with_text d t).ends k 0 (omega arith) in
      let y : get_or (take (k + 1) d.ends) k 0 ≡ get_or d.ends k 0 = get_or-take (k + 1) d.ends k 0 (omega arith) in
      sym x ∙ (ap (λ zs. get_or zs k 0) (front (k + 1) (omega arith)) ∙ y)

  start_kept : (k : ℕ) → k ≤ buffer_for d (length t) → buffer_start (with_text d t).ends k ≡ buffer_start d.ends k
  start_kept k h = start_same (with_text d t).ends d.ends k (front k h)

  pub length_bytes : length (with_text d t).bytes ≡ length d.bytes + length t
  unfolding with_text
  length_bytes = length-append d.bytes t

  start_below : buffer_start d.ends (buffer_for d (length t)) ≤ length d.bytes
  start_below = let a = (placed d o (length t)).at in omega arith

  pub text_ordered : Ordered (with_text d t)
  text_ordered =
      let p = placed d o (length t) in
      let m = p.most in
      let le = length_ends in
      let lb = length_bytes in
      let la = last_end in
      let B : ℕ = buffer_for d (length t) in
      record {
        whole =
            ap (buffer_start (with_text d t).ends) le
            ∙ (start_at (with_text d t).ends (B + 1) (omega arith) ∙ (let e : B + 1 - 1 ≡ B = omega arith in ap (λ k. get_or (with_text d t).ends k 0) e) ∙ (la ∙ sym lb));
        rise =
            λ k h.
            elim (cases_lt k B) [
              | inl l ↦ let s = start_kept k (omega arith) in let e = other_end k l in let r = o.rise k (omega arith) in omega arith
              | inr l ↦
                  let q : k ≡ B = omega arith in
                  let s : buffer_start (with_text d t).ends k ≡ buffer_start d.ends B = ap (buffer_start (with_text d t).ends) q ∙ start_kept B (omega arith) in
                  let e : buffer_end (with_text d t).ends k ≡ length d.bytes + length t = ap (buffer_end (with_text d t).ends) q ∙ la in
                  let z = start_below in
                  omega arith
            ];
        within =
            λ k h.
            elim (cases_lt k B) [
              | inl l ↦ let e = other_end k l in let r = o.within k (omega arith) in omega arith
              | inr l ↦
                  let q : k ≡ B = omega arith in
                  let e : buffer_end (with_text d t).ends k ≡ length d.bytes + length t = ap (buffer_end (with_text d t).ends) q ∙ la in
                  omega arith
            ];
      }

  longer_text : (with_text d t).bytes ≡ d.bytes ++ t
  unfolding with_text
  longer_text = refl

  pub text_grows : Grows d (with_text d t)
  text_grows =
      let p = placed d o (length t) in
      let m = p.most in
      let n = p.least in
      let le = length_ends in
      let la = last_end in
      let B : ℕ = buffer_for d (length t) in
      record {
        more = omega arith;
        same = front (length d.ends - 1) (omega arith);
        later =
            λ k h.
            elim (cases_lt k B) [
              | inl l ↦ let e = other_end k l in omega arith
              | inr l ↦
                  let q : k ≡ B = omega arith in
                  let e : buffer_end (with_text d t).ends k ≡ length d.bytes + length t = ap (buffer_end (with_text d t).ends) q ∙ la in
                  let w = o.within k h in
                  omega arith
            ];
        longer = longer_by d.bytes (with_text d t).bytes t longer_text;
      }

  -- the text lies in its buffer
  pub text_lies : length t ≤ 2147483647 → LiesIn (with_text d t) t (buffer_for d (length t)) (offset_for d (length t))
  text_lies small =
      let p = placed d o (length t) in
      let a = p.at in
      let B : ℕ = buffer_for d (length t) in
      let le = length_ends in
      let la = last_end in
      let s : buffer_start (with_text d t).ends B ≡ buffer_start d.ends B = start_kept B (omega arith) in
      let q : buffer_start (with_text d t).ends B + offset_for d (length t) ≡ length d.bytes = omega arith in
      record {
        known = omega arith;
        within = omega arith;
        small = p.small small;
        there =
            ap (λ (i : ℕ). part i (length t) (with_text d t).bytes) q
            ∙ (ap (part (length d.bytes) (length t)) longer_text ∙ (ap (take (length t)) (drop_at d.bytes t (length d.bytes) refl) ∙ take_all (length t) t (omega arith)));
      }
