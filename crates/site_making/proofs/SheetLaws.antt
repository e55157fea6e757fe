-- A sheet once more, quirks applied, and more priority.
use Rattle.std.proofs.Common.{◌≡◌, ℕ, List, ap, ◌∙◌}
use Rattle.fw_facts.specs.declared.sheet.Sheet.{Sheet}
use Rattle.quirk_files.specs.declared.quirk.Quirk.{Quirk}
use Rattle.quirk_files.specs.Sheets.{sheet_after}
use Rattle.site_types.specs.declared.site.Site.{Site}
use Rattle.site_making.specs.Priorities.{priority_of}
use Rattle.site_making.specs.Settled.{raised, settled_sheet, settled_sheets}

pub settled_is : (quirks : List Quirk) (adds : List ℕ → ℕ) (sheet copy after : Sheet) (more : ℕ) → copy ≡ sheet
    → after ≡ sheet_after copy quirks → more ≡ adds after.plugin → raised more after ≡ settled_sheet quirks adds sheet
settled_is quirks adds sheet copy after more copied applied made =
    ap (λ (n : ℕ). raised n after) made
    ∙ ap (λ (s : Sheet). raised (adds s.plugin) s) (applied ∙ ap (λ (s : Sheet). sheet_after s quirks) copied)

-- what names add, where they and the priorities are the same
pub same_sheets : (site : Site) (names names' : List (List ℕ)) (priorities priorities' : List ℕ) (sheets : List Sheet) → names ≡ names' → priorities ≡ priorities'
    → sheets ≡ settled_sheets site (priority_of names priorities) → sheets ≡ settled_sheets site (priority_of names' priorities')
same_sheets site names names' priorities priorities' sheets e f is =
    is ∙ ap (λ (ns : List (List ℕ)). settled_sheets site (priority_of ns priorities)) e ∙ ap (λ (ps : List ℕ). settled_sheets site (priority_of names' ps)) f
