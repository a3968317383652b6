-- An array as a loop fills it: the places that are done, and those that are left. Contracts of passes cite these.
use Rattle.std.specs.Prelude.{◌≡◌, List, ℕ, ◌≤◌, ◌<◌, length, get_or}

-- ---- a loop that fills a list: right below t, whatever stands above
abbrev pub Upto : {A : Type 0} → ℕ → (ℕ → A) → A → List A → Type 0
Upto {A} t g z l = (i : ℕ) → i < t → get_or l i z ≡ g i

-- from t on, the list is g's
abbrev pub From : {A : Type 0} → ℕ → (ℕ → A) → A → List A → Type 0
From {A} t g z l = (i : ℕ) → t ≤ i → get_or l i z ≡ g i

-- n places show a list: its elements, then z
abbrev pub Shows : {A : Type 0} → ℕ → A → List A → List A → Type 0
Shows n z l items = Upto n (λ k. get_or l k z) z items

-- of n places those before k are g's, and those from there on are z
abbrev pub Filled : {A : Type 0} → ℕ → (ℕ → A) → A → ℕ → List A → Type 0
Filled n g z k out = (length out ≡ n) × Upto k g z out × From k (λ i. z) z out
