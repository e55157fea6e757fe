use Rattle.std.proofs.Common.{◌≡◌, ◌<◌, ℕ, List, length, ap, sym, ◌∙◌, arith}
use Rattle.std.specs.Prelude.{Option, Some, option_and_then, position, slice_get, unwrap_or}
use Rattle.std.specs.Str.{bytes_eq}
use Rattle.fw_facts.specs.declared.sheet.Sheet.{Sheet}
use Rattle.update_log.proofs.Targets.{at-index}
use Rattle.update_log.specs.declared.facts.Facts.{Facts}
use Rattle.daemon_core.specs.Claims.{place_given, plugin_at}
use Rattle.daemon_core.specs.Housed.{HouseLogView}
use Rattle.daemon_core.proofs.house_log.HouseLog.plugin.Goals as goal

pub returns : goal.returns
returns c =
    let f : c.self.inside.facts ≡ c.args.self.now.facts = ap (λ (a : HouseLogView). a.facts) c.self.view_is in
    let s : c.items.result.now ≡ c.args.self.now.facts.sheets = c.items.ensures ∙ ap (λ (x : Facts). x.sheets) f in
    let l = ap length s in
    let r = c.requires in
    let within : c.args.number < length c.items.result.now = omega (arith, l, r) in
    let at = at-index c.items.result.now c.args.number c.index-items-number.result within c.index-items-number.is in
    let there : slice_get c.args.self.now.facts.sheets c.args.number ≡ Some c.index-items-number.result = ap (λ (xs : List Sheet). slice_get xs c.args.number) (sym s) ∙ at in
    let found : plugin_at c.args.self.now.facts c.args.number ≡ position (λ vetoes. bytes_eq vetoes.plugin c.index-items-number.result.plugin) c.args.self.now.facts.vetoes =
    ap (option_and_then (λ (x : Sheet). position (λ vetoes. bytes_eq vetoes.plugin x.plugin) c.args.self.now.facts.vetoes)) there in
    let same : c.plugin_place.result ≡ plugin_at c.args.self.now.facts c.args.number =
    c.plugin_place.ensures ∙ ap (λ (x : Facts). position (λ vetoes. bytes_eq vetoes.plugin c.index-items-number.result.plugin) x.vetoes) f ∙ sym found in
    c.place_given.ensures ∙ ap place_given (c.unwrap_or.ensures ∙ ap (λ (o : Option ℕ). unwrap_or o 0) same)
