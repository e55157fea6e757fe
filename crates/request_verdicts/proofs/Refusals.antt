-- The first refusal of a list in parts.
use Rattle.std.proofs.Common.{◌≡◌, List, [], ◌∷◌, ◌++◌, refl, ◌∙◌}
use Rattle.std.specs.Prelude.{Option, Some, None}
use Rattle.update_log.specs.declared.refusal.Refusal.{Refusal}
use Rattle.update_log.specs.Verdicts.{Case, first_refusal, refusals}
use Rattle.update_log.specs.Known.{Target}
use Rattle.request_verdicts.specs.Cases.{row_refusals, device_refusals, version_refusals, rule_refusals, room_refusals}

pub front : (xs ys : List (Option Refusal)) (r : Refusal) → Some r ≡ first_refusal xs → Some r ≡ first_refusal (xs ++ ys)
front [] ys r h = cc
front (Some x ∷ xs) ys r h = h
front (None ∷ xs) ys r h = front xs ys r h

pub behind : (xs ys : List (Option Refusal)) → None ≡ first_refusal xs → first_refusal ys ≡ first_refusal (xs ++ ys)
behind [] ys h = refl
behind (Some x ∷ xs) ys h = cc
behind (None ∷ xs) ys h = behind xs ys h

-- The five parts of what may refuse a request, one by one.
pub by-row : (c : Case) (t : Target) (r : Refusal) → Some r ≡ first_refusal (row_refusals c t) → Some r ≡ first_refusal (refusals c t)
by-row c t r h = front (row_refusals c t) (device_refusals c t ++ (version_refusals c t ++ (rule_refusals c t ++ room_refusals c t))) r h

pub past-row : (c : Case) (t : Target) → None ≡ first_refusal (row_refusals c t) → first_refusal (device_refusals c t ++ (version_refusals c t ++ (rule_refusals c t ++ room_refusals c t))) ≡ first_refusal (refusals c t)
past-row c t h = behind (row_refusals c t) (device_refusals c t ++ (version_refusals c t ++ (rule_refusals c t ++ room_refusals c t))) h

pub by-device : (c : Case) (t : Target) (r : Refusal) → None ≡ first_refusal (row_refusals c t) → Some r ≡ first_refusal (device_refusals c t) → Some r ≡ first_refusal (refusals c t)
by-device c t r w h = front (device_refusals c t) (version_refusals c t ++ (rule_refusals c t ++ room_refusals c t)) r h ∙ past-row c t w

pub past-device : (c : Case) (t : Target) → None ≡ first_refusal (row_refusals c t) → None ≡ first_refusal (device_refusals c t) → first_refusal (version_refusals c t ++ (rule_refusals c t ++ room_refusals c t)) ≡ first_refusal (refusals c t)
past-device c t w h = behind (device_refusals c t) (version_refusals c t ++ (rule_refusals c t ++ room_refusals c t)) h ∙ past-row c t w

pub by-version : (c : Case) (t : Target) (r : Refusal) → None ≡ first_refusal (row_refusals c t) → None ≡ first_refusal (device_refusals c t) → Some r ≡ first_refusal (version_refusals c t) → Some r ≡ first_refusal (refusals c t)
by-version c t r w h g = front (version_refusals c t) (rule_refusals c t ++ room_refusals c t) r g ∙ past-device c t w h

pub past-version : (c : Case) (t : Target) → None ≡ first_refusal (row_refusals c t) → None ≡ first_refusal (device_refusals c t) → None ≡ first_refusal (version_refusals c t) → first_refusal (rule_refusals c t ++ room_refusals c t) ≡ first_refusal (refusals c t)
past-version c t w h g = behind (version_refusals c t) (rule_refusals c t ++ room_refusals c t) g ∙ past-device c t w h

pub by-rule : (c : Case) (t : Target) (r : Refusal) → None ≡ first_refusal (row_refusals c t) → None ≡ first_refusal (device_refusals c t) → None ≡ first_refusal (version_refusals c t) → Some r ≡ first_refusal (rule_refusals c t) → Some r ≡ first_refusal (refusals c t)
by-rule c t r w h g f = front (rule_refusals c t) (room_refusals c t) r f ∙ past-version c t w h g

pub by-room : (c : Case) (t : Target) (o : Option Refusal) → None ≡ first_refusal (row_refusals c t) → None ≡ first_refusal (device_refusals c t) → None ≡ first_refusal (version_refusals c t) → None ≡ first_refusal (rule_refusals c t) → o ≡ first_refusal (room_refusals c t) → o ≡ first_refusal (refusals c t)
by-room c t o w h g f e = e ∙ behind (rule_refusals c t) (room_refusals c t) f ∙ past-version c t w h g
