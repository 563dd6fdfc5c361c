use Rattle.std.proofs.Common.{◌++◌, ap, ◌∙◌}
use Rattle.web_page.specs.declared.texts.TheConstants.{CLOSING, OPENING}
use Rattle.web_page.specs.Escape.{escaped}
use Rattle.web_page.proofs.document.page_text.Goals as goal

pub returns : goal.returns
returns c =
    let json = c.deref.result.now in (
      json,
      c.in_ok-extend_from_slice-2.ensures.items
          ∙ ap (λ x. x ++ CLOSING.now)
          (c.in_ok-put_escaped.ensures
          ∙ ap (λ x. x ++ escaped json)
          (c.in_ok-extend_from_slice.ensures.items ∙ ap (λ x. x ++ OPENING.now) c.new-out.ensures.items)),
    )
