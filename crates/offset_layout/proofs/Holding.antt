-- What the writes of an output make of memory that holds rows.
use Rattle.std.proofs.Common.{◌≡◌, ℕ, ◌+◌, ◌-◌, ◌/◌, ◌%◌, ◌^◌, ◌<◌, ◌≤◌, true, List, [], ◌∷◌, ◌++◌, length, get_or, take, set, replicate, ℤ, pos, Some, None, sym, refl, ap, ◌∙◌, arith}
use lib.Bits.{bit_or}
use lib.Seq.{paste}
use Rattle.std.proofs.lemmas.List.{length_push, length-replicate, length-set, length-take-le, take_all}
use Rattle.std.proofs.lemmas.List.Edits.{length-paste}
use Rattle.source.specs.Rows.{Row}
use Rattle.text.specs.Steps.{formed}
use Rattle.offset_layout.specs.Layout.{used, capacity, Holds}
use Rattle.writing.specs.Padding.{zeros}
use Rattle.writing.proofs.Bitmaps.{bitmap_push, bitmap_null, bitmap_cut, bitmap_none}
use Rattle.offset_layout.proofs.Forms.{formed_push, formed_take}
use Rattle.offset_layout.proofs.Offsets.{offsets_at, offset_low, offsets_push, offsets_cut, offsets_none}
use Rattle.offset_layout.proofs.Values.{used_push, used_cut, values_push, values_null, values_cut, values_none}

module _ {os : List ℤ} {vs bs : List ℕ} {rows : List Row} {n u : ℕ} (h : Holds os vs bs rows n u) (room : n < capacity (length os) (length bs)) where
  -- a text more
  pub push_text : (t : List ℕ) → formed t ≡ true → u + length t ≤ length vs → Holds (set os (n + 1) (pos (u + length t))) (paste vs u t (length t)) (set bs (n / 8) (bit_or (get_or bs (n / 8) 0) (2 ^ (n % 8)))) (rows ++ Some t ∷ []) (n + 1) (u + length t)
  push_text t well fits =
      let c = h.count in
      let s = h.size in
      let up : used (rows ++ Some t ∷ []) ≡ u + length t = used_push rows (Some t) ∙ ap (λ x. x + length t) s in
      let lo : length (set os (n + 1) (pos (u + length t))) ≡ length os = length-set os (n + 1) (pos (u + length t)) in
      let lb : length (set bs (n / 8) (bit_or (get_or bs (n / 8) 0) (2 ^ (n % 8)))) ≡ length bs = length-set bs (n / 8) (bit_or (get_or bs (n / 8) 0) (2 ^ (n % 8))) in
      let lv : length (paste vs u t (length t)) ≡ length vs = length-paste vs u t (length t) fits (omega arith) in
      let e1 = h.offsets_are in
      let e2 = h.values_are in
      let e3 = h.bitmap_is in
      let o = offsets_push (length os) rows (Some t) n (u + length t) c (omega arith) up in
      let v = values_push (length vs) rows t u s fits in
      let b = bitmap_push rows n c (length bs) t (omega arith) in
      record { count = length_push rows (Some t) ∙ ap (λ x. x + 1) c; size = up; room = omega arith; fits = omega arith; texts = formed_push rows (Some t) h.texts well; offsets_are = cc; values_are = cc; bitmap_is = cc }

  -- the same, as the writes give it one after the other
  pub push_text_to : (t b : List ℕ) → b ≡ t → formed b ≡ true → u + length t ≤ length vs → (os' : List ℤ) (vs' bs' : List ℕ) → os' ≡ set os (n + 1) (pos (u + length t)) → vs' ≡ paste vs u b (length b) → bs' ≡ set bs (n / 8) (bit_or (get_or bs (n / 8) 0) (2 ^ (n % 8))) → Holds os' vs' bs' (rows ++ Some t ∷ []) (n + 1) (u + length b)
  push_text_to t b e well fits os' vs' bs' eo ev eb = rw (eo, ev, eb, e) (push_text t (ap formed (sym e) ∙ well) fits)

  -- a null more
  pub push_null : Holds (set os (n + 1) (pos u)) vs bs (rows ++ None ∷ []) (n + 1) u
  push_null =
      let c = h.count in
      let s = h.size in
      let up : used (rows ++ None ∷ []) ≡ u = used_push rows None ∙ omega arith in
      let lo : length (set os (n + 1) (pos u)) ≡ length os = length-set os (n + 1) (pos u) in
      let e1 = h.offsets_are in
      let e2 = h.values_are in
      let e3 = h.bitmap_is in
      let f = h.fits in
      let o = offsets_push (length os) rows None n u c (omega arith) up in
      let v = values_null (length vs) rows in
      let b = bitmap_null (length bs) rows in
      record { count = length_push rows None ∙ ap (λ x. x + 1) c; size = up; room = omega arith; fits = f; texts = formed_push rows None h.texts refl; offsets_are = cc; values_are = cc; bitmap_is = cc }

  pub push_null_to : (os' : List ℤ) → os' ≡ set os (n + 1) (pos u) → Holds os' vs bs (rows ++ None ∷ []) (n + 1) u
  push_null_to os' eo = rw eo push_null

-- the rows before the n-th alone
module _ {os : List ℤ} {vs bs : List ℕ} {rows : List Row} {m u : ℕ} (h : Holds os vs bs rows m u) (n k : ℕ) (lt : n < m) (ek : used (take n rows) ≡ k) where
  pub size_cut : k ≤ u
  size_cut =
      let c = h.count in
      let s = h.size in
      let x = used_cut rows n (omega arith) in
      omega arith

  pub cut_rows : Holds (paste os (n + 1) (replicate (m - n) (pos 0)) (m - n)) (paste vs k (zeros (u - k)) (u - k)) (paste (set bs (n / 8) (get_or bs (n / 8) 0 % 2 ^ (n % 8))) (n / 8 + 1) (zeros ((m - 1) / 8 + 1 - (n / 8 + 1))) ((m - 1) / 8 + 1 - (n / 8 + 1))) (take n rows) n k
  cut_rows =
      let c = h.count in
      let s = h.size in
      let r = h.room in
      let f = h.fits in
      let z : ℕ = (m - 1) / 8 + 1 - (n / 8 + 1) in
      let v : ℕ = get_or bs (n / 8) 0 % 2 ^ (n % 8) in
      let e1 = h.offsets_are in
      let e2 = h.values_are in
      let e3 = h.bitmap_is in
      let uc = used_cut rows n (omega arith) in
      let lz1 : length (replicate (m - n) (pos 0)) ≡ m - n = length-replicate (m - n) (pos 0) in
      let lz2 : length (zeros (u - k)) ≡ u - k = length-replicate (u - k) 0 in
      let lz3 : length (zeros z) ≡ z = length-replicate z 0 in
      let ls : length (set bs (n / 8) v) ≡ length bs = length-set bs (n / 8) v in
      let lo : length (paste os (n + 1) (replicate (m - n) (pos 0)) (m - n)) ≡ length os = length-paste os (n + 1) (replicate (m - n) (pos 0)) (m - n) (omega arith) (omega arith) in
      let lv : length (paste vs k (zeros (u - k)) (u - k)) ≡ length vs = length-paste vs k (zeros (u - k)) (u - k) (omega arith) (omega arith) in
      let lb : length (paste (set bs (n / 8) v) (n / 8 + 1) (zeros z) z) ≡ length (set bs (n / 8) v) = length-paste (set bs (n / 8) v) (n / 8 + 1) (zeros z) z (omega arith) (omega arith) in
      let o = offsets_cut rows n m c lt (length os) (omega arith) in
      let w = values_cut rows n (omega arith) (length vs) k u ek s f in
      let b = bitmap_cut rows n m c lt (length bs) (omega arith) in
      record { count = length-take-le n rows (omega arith); size = ek; room = omega arith; fits = omega arith; texts = formed_take n rows h.texts; offsets_are = cc; values_are = cc; bitmap_is = cc }

-- where the last row ends
pub last_offset : {os : List ℤ} {vs bs : List ℕ} {rows : List Row} {n u : ℕ} → Holds os vs bs rows n u → (d : ℤ) → n < length os → get_or os n d ≡ pos u
last_offset {os} {vs} {bs} {rows} {n} {u} h d l =
    let c = h.count in
    let all : take n rows ≡ rows = take_all n rows (omega arith) in
    ap (λ o. get_or o n d) h.offsets_are ∙ (offsets_at (length os) rows n d l ∙ ap pos (offset_low rows n (omega arith) ∙ (ap used all ∙ h.size)))

-- memory that was cleared
pub no_rows : (os : List ℤ) (vs bs : List ℕ) (l v b : ℕ) → os ≡ replicate l (pos 0) → vs ≡ zeros v → bs ≡ zeros b → Holds os vs bs [] 0 0
unfolding used
no_rows os vs bs l v b eo ev eb =
    let lo : length os ≡ l = ap length eo ∙ length-replicate l (pos 0) in
    let lv : length vs ≡ v = ap length ev ∙ length-replicate v 0 in
    let lb : length bs ≡ b = ap length eb ∙ length-replicate b 0 in
    let no = offsets_none l in
    let nv = values_none v in
    let nb = bitmap_none b in
    record { count = refl; size = refl; room = omega arith; fits = omega arith; texts = refl; offsets_are = cc; values_are = cc; bitmap_is = cc }
