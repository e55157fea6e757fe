-- Signs that were read, in front of those that are left.
use Rattle.std.proofs.Common.{◌≡◌, ℕ, ◌+◌, ◌<◌, ◌≤◌, List, [], ◌∷◌, ◌++◌, length, drop, get_or, Option, Some, None, refl, sym, ap, ◌∙◌, append_assoc, append-nil}
use Rattle.std.proofs.lemmas.List.{drop_more, drop_all}
use Rattle.fw_patterns.specs.Reading.{Stream, stop, ahead, sign_step, pending_fault, signs}
use Rattle.fw_patterns.specs.declared.fault.PatternFault.{PatternFault}
use Rattle.fw_patterns.specs.declared.signs.Sign.{Sign}
use Rattle.fw_patterns.specs.declared.signs.SignStep.TheVariants.{Backslash, Whole, Bad}

-- ---- streams

-- a stream with items in front of it
abbrev pub behind : {X : Type 0} → List X → Stream X → Stream X
behind items stream = record { items = items ++ stream.items; end = stream.end }

pub behind-ahead : {X : Type 0} (items : List X) (item : X) (stream : Stream X) → behind (items ++ item ∷ []) stream ≡ behind items (ahead item stream)
behind-ahead {X} items item stream =
    let make : List X → Stream X = λ xs. record { items = xs; end = stream.end } in
    ap make (append_assoc items (item ∷ []) stream.items)

-- all items of a stream that stops are those in front
pub behind-stop : {X : Type 0} (items : List X) (end : Option PatternFault) (all : Stream X) → behind items (stop end) ≡ all
    → (items ≡ all.items) × (end ≡ all.end)
behind-stop {X} items end all h =
    (sym (append-nil items) ∙ ap (λ (s : Stream X). s.items) h, ap (λ (s : Stream X). s.end) h)

-- ---- one byte more

pub signs-backslash : (pending : Option ℕ) (at : ℕ) (text : List ℕ) → at < length text → sign_step pending at (get_or text at 0) ≡ Backslash
    → signs pending at (drop at text) ≡ signs (Some at) (at + 1) (drop (at + 1) text)
unfolding signs
signs-backslash pending at text h step = rw (drop_more text at 0 h, step) refl

pub signs-sign : (pending : Option ℕ) (at : ℕ) (text : List ℕ) (s : Sign) → at < length text → sign_step pending at (get_or text at 0) ≡ Whole s
    → signs pending at (drop at text) ≡ ahead s (signs None (at + 1) (drop (at + 1) text))
unfolding signs
signs-sign pending at text s h step = rw (drop_more text at 0 h, step) refl

pub signs-fault : (pending : Option ℕ) (at : ℕ) (text : List ℕ) (fault : PatternFault) → at < length text → sign_step pending at (get_or text at 0) ≡ Bad fault
    → signs pending at (drop at text) ≡ stop (Some fault)
unfolding signs
signs-fault pending at text fault h step = rw (drop_more text at 0 h, step) refl

pub signs-end : (pending : Option ℕ) (at : ℕ) (text : List ℕ) → length text ≤ at → signs pending at (drop at text) ≡ stop (pending_fault pending)
unfolding signs
signs-end pending at text h = rw (drop_all at text h) refl
