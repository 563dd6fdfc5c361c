-- What every page is.
use Rattle.std.specs.Prelude.{◌≡◌, ℕ, List, ◌++◌}
use Rattle.web_page.specs.declared.texts.TheConstants.{CLOSING, OPENING}
use Rattle.web_page.specs.Escape.{escaped}

-- A fixed head with the style, data in which nothing can end their element, and a fixed end with the script:
-- all that comes from the input stands in the data.
abbrev pub IsPage : List ℕ → Type 0
IsPage text = (json : List ℕ) × (text ≡ OPENING.now ++ escaped json ++ CLOSING.now)
