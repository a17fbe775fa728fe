-- Demand 3 about the code: what a series of calls of `handle_request`, `tick` and `next_action_time` sends is what the definitions' series sends, so `every_upload_spells` speaks of it.
use Prim.Native.Nat.{ℕ}
use mathlib.Core.Path.{◌≡◌, refl, sym, ap, ◌∙◌, subst}
use mathlib.Core.List.{List, [], ◌∷◌, ◌++◌, map}
use Rattle.protocol.specs.declared.SdoClientInfo.{SdoClientInfo}
use Rattle.protocol.specs.Series.{Server, start, request_done, tick_done, held_by, Sent, step, run}
use Rattle.protocol.specs.EveryUpload.{AllDecode, AllSpell, frames_of}
use Rattle.protocol.proofs.Series.{every_upload_spells}
use Rattle.server.specs.CodeSeries.{Turn, requested, ticked, queried, call_of, Ran, next_of, sent_by, sent_all}

-- the code's series is the definitions'
pub code_runs : (ts : List Turn) (s : Server) (log : List Sent) → Ran s ts → run s (map call_of ts) log ≡ sent_all ts log
unfolding run step
code_runs [] s log ran = refl
code_runs (requested client clock bytes image answer r answer' area' image' ∷ ts) s log ran =
    let t = requested client clock bytes image answer r answer' area' image' in
    ap (λ k. let d = request_done (held_by bytes image) k in run d.server (map call_of ts) (d.sent ++ log)) (sym ran.0) ∙ code_runs ts (next_of s t) (sent_by t ++ log) ran.1
code_runs (ticked clock image answer r answer' ∷ ts) s log ran =
    let t = ticked clock image answer r answer' in
    ap (λ k. let d = tick_done k in run d.server (map call_of ts) (d.sent ++ log)) (sym ran.0) ∙ code_runs ts (next_of s t) (sent_by t ++ log) ran.1
code_runs (queried n ∷ ts) s log ran = code_runs ts s log ran.1

-- every answer that the code sent decodes, and every client's finished uploads spell the value held when they began
pub code_spells : (ts : List Turn) (area : List ℕ) → Ran (start area) ts → AllDecode (sent_all ts []) × ((c : SdoClientInfo) → AllSpell (frames_of c (sent_all ts [])))
code_spells ts area ran =
    let claim = every_upload_spells (map call_of ts) area in
    subst (λ sent. AllDecode sent × ((c : SdoClientInfo) → AllSpell (frames_of c sent))) (code_runs ts (start area) [] ran) (claim.decodes, claim.spells)
