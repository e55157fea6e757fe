-- One step of the walk to an ancestor.
use Rattle.std.proofs.Common.{◌≡◌, ℕ, suc, ◌+◌, ◌-◌, ◌<◌, List, Some, None, refl, arith}
use Rattle.fw_facts.specs.declared.view.DeviceView.{DeviceView}
use Rattle.requirements.specs.Requirements.{ancestor, parent}

left-suc : (depth at : ℕ) → at < depth → depth - at ≡ suc (depth - (at + 1))
left-suc depth at h = omega arith

-- the walk goes on from the parent, with one step less to go
pub ancestor-step : (views : List DeviceView) (depth at : ℕ) (view next : DeviceView) → at < depth → parent views view ≡ Some next
    → ancestor views (depth - at) view ≡ ancestor views (depth - (at + 1)) next
ancestor-step views depth at view next h is = rw (left-suc depth at h, is) refl

-- without a parent it ends
pub ancestor-end : (views : List DeviceView) (depth at : ℕ) (view : DeviceView) → at < depth → parent views view ≡ None
    → ancestor views (depth - at) view ≡ None
ancestor-end views depth at view h is = rw (left-suc depth at h, is) refl
