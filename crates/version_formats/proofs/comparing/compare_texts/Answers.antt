use Rattle.std.proofs.Common.{◌∙◌, sym}
use Rattle.version_formats.proofs.OrderLemmas.{version_cmp-differing, version_cmp-behind}
use Rattle.version_formats.proofs.comparing.compare_texts.Goals as goal

pub returns-in_default : goal.returns-in_default
returns-in_default c =
    c.compare_sections.ensures
    ∙ sym (version_cmp-differing _ _ c.first_section.result.0.now c.first_section-in-sections.result.0.now _ _
    c.first_section.ensures.first c.first_section-in-sections.ensures.first
    (λ equal. c.in_default.not-Equal (c.compare_sections.ensures ∙ equal)))
    ∙ c.sections.invariant

pub sections-preserved : goal.sections-preserved
sections-preserved c =
    let behind = version_cmp-behind _ _ c.first_section.result.0.now c.first_section-in-sections.result.0.now _ _
    c.first_section.ensures.first c.first_section-in-sections.ensures.first (sym c.compare_sections.ensures ∙ c.in-Equal.is) in
    let told = rw (c.in-Some-Some.is-0, c.in-Some-Some.is-1) at behind in
    sym told ∙ c.sections.invariant

pub returns-in-Some-None : goal.returns-in-Some-None
returns-in-Some-None c =
    let behind = version_cmp-behind _ _ c.first_section.result.0.now c.first_section-in-sections.result.0.now _ _
    c.first_section.ensures.first c.first_section-in-sections.ensures.first (sym c.compare_sections.ensures ∙ c.in-Equal.is) in
    let told = rw (c.in-Some-None.is-0, c.in-Some-None.is-1) at behind in
    sym told ∙ c.sections.invariant

pub returns-in-None-Some : goal.returns-in-None-Some
returns-in-None-Some c =
    let behind = version_cmp-behind _ _ c.first_section.result.0.now c.first_section-in-sections.result.0.now _ _
    c.first_section.ensures.first c.first_section-in-sections.ensures.first (sym c.compare_sections.ensures ∙ c.in-Equal.is) in
    let told = rw (c.in-None-Some.is-0, c.in-None-Some.is-1) at behind in
    sym told ∙ c.sections.invariant

pub returns-in-None-None : goal.returns-in-None-None
returns-in-None-None c =
    let behind = version_cmp-behind _ _ c.first_section.result.0.now c.first_section-in-sections.result.0.now _ _
    c.first_section.ensures.first c.first_section-in-sections.ensures.first (sym c.compare_sections.ensures ∙ c.in-Equal.is) in
    let told = rw (c.in-None-None.is-0, c.in-None-None.is-1) at behind in
    sym told ∙ c.sections.invariant
