-- What a legal past says of its boots, times and limits.
use Rattle.std.proofs.Common.{◌≡◌, ℕ, ◌<◌, ◌≤◌, ◌+◌, Bool, true, false, List, [], ◌∷◌, refl, sym, ◌∙◌, subst, arith}
use Rattle.std.proofs.lemmas.Bool.{leb-true, leb-false}
use Rattle.std.specs.Prelude.{Option, Some, None, IfSome, MatchBool, nat_le}
use Rattle.update_log.proofs.Lists.{by_test}
use Rattle.update_log.specs.Pasts.{AllFaults, boots, counted, is_boot, is_counted, limit_after, limit_of, off, time_after}
use Rattle.update_log.specs.Legal.{BelowLimit, IsLegal}
use Rattle.update_log.specs.Shows.{Campaign}
use Rattle.update_log.specs.declared.event.Event.{Event}

-- Only a boot has a time and a limit.
pub limit-same : (event : Event) (o : Option ℕ) → is_boot event ≡ false → limit_after event o ≡ o
limit-same (Event.Boot number time limit found boards) o h = cc
limit-same _ o h = refl

pub time-same : (event : Event) (n : ℕ) → is_boot event ≡ false → time_after event n ≡ n
time-same (Event.Boot number time limit found boards) o h = cc
time-same _ o h = refl

none-over : (o : Option ℕ) → IfSome o (λ m. 0 ≤ m)
none-over None = tt
none-over (Some m) = omega arith

one-over : (o : Option ℕ) (n : ℕ) → IfSome o (λ m. n < m) → IfSome o (λ m. n + 1 ≤ m)
one-over None n h = tt
one-over (Some m) n h = omega arith

-- No more events are counted than the limit allows.
pub counted-within : (c : Campaign) (past : List Event) → IsLegal c past → IfSome (limit_of past) (λ m. counted past ≤ m)
counted-within c [] l = tt
counted-within c (event ∷ past) l =
    by_test (is_boot event) (IfSome (limit_of (event ∷ past)) (λ m. counted (event ∷ past) ≤ m))
    (λ t. rw t (none-over (limit_of (event ∷ past))))
    (λ f. rw (f, limit-same event (limit_of past) f)
    (by_test (is_counted event) _
    (λ t. rw t (one-over (limit_of past) (counted past) (l.1.below t)))
    (λ n. rw n (counted-within c past l.0))))

-- Where the limit isn't above what was counted, it is that.
pub limit-met : (o : Option ℕ) (n limit : ℕ) → IfSome o (λ m. n ≤ m) → o ≡ Some limit → limit ≤ n → o ≡ Some n
limit-met None n limit h e g = cc
limit-met (Some m) n limit h e g = let s : m ≡ limit = cc in let t : m ≡ n = omega arith in cc

-- A boot after boots that couldn't read the history is off.
pub faults-off : (past : List Event) → AllFaults past → 0 < boots past → off past ≡ true
faults-off [] a h = absurd (omega arith)
faults-off (Event.Boot number time limit found boards ∷ past) a h = a.0
faults-off _ a h = let e : false ≡ true = a.0 in cc

-- Whether the power is to be cut, by the limit.
pub cut-met : (past : List Event) (limit : ℕ) → IfSome (limit_of past) (λ m. counted past ≤ m) → limit_of past ≡ Some limit → MatchBool (nat_le limit (counted past)) (limit_of past ≡ Some (counted past)) (BelowLimit past)
cut-met past limit h e =
    by_test (nat_le limit (counted past)) (MatchBool (nat_le limit (counted past)) (limit_of past ≡ Some (counted past)) (BelowLimit past))
    (λ t. rw t (limit-met (limit_of past) (counted past) limit h e (leb-true _ _ t)))
    (λ f. rw f (let P : Option ℕ → Type 0 = λ o. IfSome o (λ m. counted past < m) in subst P (sym e) (leb-false _ _ f)))

-- Where there was a boot that isn't off, rows were loaded.
pub loaded-on : (loaded : Bool) (past : List Event) → (loaded ≡ false → AllFaults past) → 0 < boots past → off past ≡ false → loaded ≡ true
loaded-on true past u b o = refl
loaded-on false past u b o = let e : true ≡ false = sym (faults-off past (u refl) b) ∙ o in cc
