-- What is read of Response.
use Rattle.std.proofs.Common.{◌∙◌, ◌∷◌, ◌≡◌, [], List, ap, refl, ℕ}
use Rattle.mmc_card.specs.declared.response.Response.TheVariants as To
use Rattle.mmc_host.specs.declared.told.Heard.TheVariants.{Register}
use Rattle.mmc_sdhci.specs.Commands.{ReadsWord, Tells}
use Rattle.mmc_sdhci.specs.Controller.{ControllerView}
use Rattle.mmc_sdhci.specs.CommandLooks.{bytes_shown, word}

pub register_told : (v0 v1 v2 v3 v4 : ControllerView) (a b c d : ℕ) (bytes : List ℕ) → ReadsWord v0 3 d v1
    → ReadsWord v1 2 c v2 → ReadsWord v2 1 b v3 → ReadsWord v3 0 a v4 → bytes ≡ bytes_shown (a ∷ b ∷ c ∷ d ∷ [])
    → Tells v0 To.R2 (Register bytes) v4
register_told v0 v1 v2 v3 v4 a b c d bytes first second third fourth is kept =
    let r4 = fourth kept in
    let r3 = third r4.0 in
    let r2 = second r3.0 in
    let r1 = first r2.0 in
    let same2 : v2 ≡ v0 = r2.1.1 ∙ r1.1.1 in
    let same3 : v3 ≡ v0 = r3.1.1 ∙ same2 in
    let wd : d ≡ word v0.response 3 = r1.1.0 in
    let wc : c ≡ word v0.response 2 = r2.1.0 ∙ ap (λ (v : ControllerView). word v.response 2) r1.1.1 in
    let wb : b ≡ word v0.response 1 = r3.1.0 ∙ ap (λ (v : ControllerView). word v.response 1) same2 in
    let wa : a ≡ word v0.response 0 = r4.1.0 ∙ ap (λ (v : ControllerView). word v.response 0) same3 in
    let shown : bytes ≡ bytes_shown v0.response = is ∙ rw (wa, wb, wc, wd) refl in
    (r1.0, (r4.1.1 ∙ same3, λ index flags answer type shows. shows.register type ∙ rw shown refl))
