-- Made by `oracle theorems --out crates`.
-- Fingerprints, coin ids and bundles of the recorded lists.
use Rattle.std.specs.Prelude.{List, [], ◌∷◌, ◌++◌, ℕ, replicate, true, false}
use Rattle.book.specs.Zero.{zeros, zero_output, zero_spend}
use Rattle.book.specs.declared.SpendBundle.{SpendBundle}
use Rattle.rules_recorded_lists.specs.Pieces.{num, output, spend, unreadable, spend_cells, bundle_of, bundle_cells}

abbrev pub digest1 : List ℕ
digest1 = 202 ∷ 53 ∷ 135 ∷ 88 ∷ 246 ∷ 210 ∷ 126 ∷ 108 ∷ 244 ∷ 82 ∷ 114 ∷ 147 ∷ 121 ∷ 119 ∷ 167 ∷ 72 ∷ 253 ∷ 136 ∷ 57 ∷ 29 ∷ 182 ∷ 121 ∷ 206 ∷ 218 ∷ 125 ∷ 199 ∷ 191 ∷ 31 ∷ 0 ∷ 94 ∷ 232 ∷ 121 ∷ []

abbrev pub digest2 : List ℕ
digest2 = 227 ∷ 176 ∷ 196 ∷ 66 ∷ 152 ∷ 252 ∷ 28 ∷ 20 ∷ 154 ∷ 251 ∷ 244 ∷ 200 ∷ 153 ∷ 111 ∷ 185 ∷ 36 ∷ 39 ∷ 174 ∷ 65 ∷ 228 ∷ 100 ∷ 155 ∷ 147 ∷ 76 ∷ 164 ∷ 149 ∷ 153 ∷ 27 ∷ 120 ∷ 82 ∷ 184 ∷ 85 ∷ []

abbrev pub digest3 : List ℕ
digest3 = 180 ∷ 143 ∷ 45 ∷ 34 ∷ 37 ∷ 174 ∷ 123 ∷ 102 ∷ 137 ∷ 235 ∷ 75 ∷ 225 ∷ 184 ∷ 186 ∷ 132 ∷ 140 ∷ 9 ∷ 6 ∷ 0 ∷ 16 ∷ 121 ∷ 89 ∷ 219 ∷ 73 ∷ 107 ∷ 102 ∷ 205 ∷ 173 ∷ 170 ∷ 73 ∷ 223 ∷ 56 ∷ []

abbrev pub digest4 : List ℕ
digest4 = 190 ∷ 234 ∷ 215 ∷ 121 ∷ 148 ∷ 207 ∷ 87 ∷ 51 ∷ 65 ∷ 236 ∷ 23 ∷ 181 ∷ 139 ∷ 191 ∷ 126 ∷ 179 ∷ 77 ∷ 39 ∷ 17 ∷ 201 ∷ 147 ∷ 193 ∷ 217 ∷ 118 ∷ 177 ∷ 40 ∷ 179 ∷ 24 ∷ 141 ∷ 193 ∷ 130 ∷ 154 ∷ []

abbrev pub digest5 : List ℕ
digest5 = 119 ∷ 125 ∷ 121 ∷ 4 ∷ 187 ∷ 142 ∷ 101 ∷ 141 ∷ 50 ∷ 43 ∷ 239 ∷ 106 ∷ 213 ∷ 129 ∷ 63 ∷ 183 ∷ 12 ∷ 133 ∷ 53 ∷ 101 ∷ 33 ∷ 124 ∷ 219 ∷ 62 ∷ 255 ∷ 86 ∷ 36 ∷ 230 ∷ 141 ∷ 16 ∷ 143 ∷ 103 ∷ []

abbrev pub digest6 : List ℕ
digest6 = 191 ∷ 102 ∷ 34 ∷ 38 ∷ 226 ∷ 87 ∷ 25 ∷ 198 ∷ 181 ∷ 23 ∷ 39 ∷ 232 ∷ 156 ∷ 166 ∷ 98 ∷ 145 ∷ 120 ∷ 213 ∷ 197 ∷ 65 ∷ 132 ∷ 51 ∷ 168 ∷ 211 ∷ 31 ∷ 96 ∷ 152 ∷ 196 ∷ 92 ∷ 239 ∷ 170 ∷ 81 ∷ []

abbrev pub digest7 : List ℕ
digest7 = 249 ∷ 223 ∷ 38 ∷ 210 ∷ 167 ∷ 219 ∷ 149 ∷ 234 ∷ 130 ∷ 41 ∷ 108 ∷ 16 ∷ 48 ∷ 145 ∷ 124 ∷ 60 ∷ 141 ∷ 146 ∷ 195 ∷ 30 ∷ 172 ∷ 132 ∷ 193 ∷ 240 ∷ 252 ∷ 204 ∷ 111 ∷ 81 ∷ 204 ∷ 132 ∷ 166 ∷ 37 ∷ []

abbrev pub digest8 : List ℕ
digest8 = 110 ∷ 52 ∷ 11 ∷ 156 ∷ 255 ∷ 179 ∷ 122 ∷ 152 ∷ 156 ∷ 165 ∷ 68 ∷ 230 ∷ 187 ∷ 120 ∷ 10 ∷ 44 ∷ 120 ∷ 144 ∷ 29 ∷ 63 ∷ 179 ∷ 55 ∷ 56 ∷ 118 ∷ 133 ∷ 17 ∷ 163 ∷ 6 ∷ 23 ∷ 175 ∷ 160 ∷ 29 ∷ []

abbrev pub digest9 : List ℕ
digest9 = 66 ∷ 250 ∷ 46 ∷ 194 ∷ 116 ∷ 92 ∷ 255 ∷ 243 ∷ 201 ∷ 255 ∷ 224 ∷ 82 ∷ 68 ∷ 52 ∷ 52 ∷ 189 ∷ 23 ∷ 207 ∷ 192 ∷ 93 ∷ 38 ∷ 8 ∷ 100 ∷ 109 ∷ 125 ∷ 221 ∷ 218 ∷ 138 ∷ 190 ∷ 65 ∷ 179 ∷ 255 ∷ []

abbrev pub digest10 : List ℕ
digest10 = 43 ∷ 47 ∷ 188 ∷ 240 ∷ 123 ∷ 130 ∷ 238 ∷ 209 ∷ 71 ∷ 0 ∷ 109 ∷ 105 ∷ 23 ∷ 240 ∷ 61 ∷ 173 ∷ 122 ∷ 107 ∷ 191 ∷ 234 ∷ 5 ∷ 240 ∷ 95 ∷ 245 ∷ 162 ∷ 165 ∷ 5 ∷ 94 ∷ 35 ∷ 116 ∷ 250 ∷ 144 ∷ []

abbrev pub digest11 : List ℕ
digest11 = 126 ∷ 224 ∷ 212 ∷ 100 ∷ 109 ∷ 158 ∷ 234 ∷ 96 ∷ 154 ∷ 70 ∷ 74 ∷ 40 ∷ 105 ∷ 162 ∷ 121 ∷ 166 ∷ 104 ∷ 65 ∷ 205 ∷ 7 ∷ 240 ∷ 99 ∷ 223 ∷ 44 ∷ 146 ∷ 120 ∷ 204 ∷ 155 ∷ 206 ∷ 78 ∷ 149 ∷ 233 ∷ []

abbrev pub digest12 : List ℕ
digest12 = 42 ∷ 210 ∷ 203 ∷ 178 ∷ 149 ∷ 108 ∷ 193 ∷ 55 ∷ 6 ∷ 190 ∷ 19 ∷ 105 ∷ 110 ∷ 115 ∷ 179 ∷ 164 ∷ 219 ∷ 158 ∷ 19 ∷ 49 ∷ 40 ∷ 187 ∷ 235 ∷ 245 ∷ 54 ∷ 189 ∷ 201 ∷ 53 ∷ 45 ∷ 40 ∷ 177 ∷ 228 ∷ []

abbrev pub digest13 : List ℕ
digest13 = 125 ∷ 248 ∷ 229 ∷ 49 ∷ 38 ∷ 236 ∷ 68 ∷ 83 ∷ 42 ∷ 128 ∷ 162 ∷ 87 ∷ 59 ∷ 194 ∷ 152 ∷ 214 ∷ 254 ∷ 137 ∷ 219 ∷ 36 ∷ 162 ∷ 92 ∷ 151 ∷ 193 ∷ 206 ∷ 61 ∷ 31 ∷ 18 ∷ 117 ∷ 11 ∷ 222 ∷ 110 ∷ []

abbrev pub digest14 : List ℕ
digest14 = 229 ∷ 34 ∷ 92 ∷ 23 ∷ 192 ∷ 91 ∷ 8 ∷ 190 ∷ 208 ∷ 167 ∷ 7 ∷ 80 ∷ 249 ∷ 243 ∷ 59 ∷ 29 ∷ 254 ∷ 19 ∷ 216 ∷ 221 ∷ 96 ∷ 139 ∷ 5 ∷ 137 ∷ 225 ∷ 245 ∷ 52 ∷ 208 ∷ 31 ∷ 238 ∷ 198 ∷ 227 ∷ []

abbrev pub digest15 : List ℕ
digest15 = 232 ∷ 228 ∷ 166 ∷ 245 ∷ 124 ∷ 121 ∷ 136 ∷ 242 ∷ 12 ∷ 179 ∷ 236 ∷ 143 ∷ 25 ∷ 190 ∷ 116 ∷ 59 ∷ 155 ∷ 221 ∷ 253 ∷ 68 ∷ 245 ∷ 19 ∷ 243 ∷ 5 ∷ 99 ∷ 51 ∷ 60 ∷ 135 ∷ 25 ∷ 205 ∷ 31 ∷ 175 ∷ []

abbrev pub digest16 : List ℕ
digest16 = 181 ∷ 139 ∷ 187 ∷ 43 ∷ 5 ∷ 139 ∷ 109 ∷ 67 ∷ 86 ∷ 44 ∷ 228 ∷ 37 ∷ 4 ∷ 250 ∷ 85 ∷ 106 ∷ 215 ∷ 195 ∷ 5 ∷ 245 ∷ 227 ∷ 8 ∷ 97 ∷ 109 ∷ 130 ∷ 230 ∷ 185 ∷ 17 ∷ 107 ∷ 230 ∷ 193 ∷ 64 ∷ []

abbrev pub digest17 : List ℕ
digest17 = 166 ∷ 212 ∷ 206 ∷ 177 ∷ 196 ∷ 110 ∷ 141 ∷ 254 ∷ 203 ∷ 154 ∷ 55 ∷ 117 ∷ 79 ∷ 249 ∷ 145 ∷ 187 ∷ 44 ∷ 41 ∷ 100 ∷ 174 ∷ 181 ∷ 165 ∷ 66 ∷ 250 ∷ 16 ∷ 87 ∷ 0 ∷ 223 ∷ 21 ∷ 80 ∷ 115 ∷ 116 ∷ []

abbrev pub digest18 : List ℕ
digest18 = 162 ∷ 110 ∷ 123 ∷ 132 ∷ 93 ∷ 100 ∷ 169 ∷ 52 ∷ 167 ∷ 212 ∷ 150 ∷ 123 ∷ 113 ∷ 252 ∷ 18 ∷ 57 ∷ 219 ∷ 147 ∷ 189 ∷ 110 ∷ 45 ∷ 97 ∷ 113 ∷ 56 ∷ 69 ∷ 118 ∷ 69 ∷ 196 ∷ 125 ∷ 61 ∷ 96 ∷ 8 ∷ []

abbrev pub digest19 : List ℕ
digest19 = 112 ∷ 158 ∷ 128 ∷ 200 ∷ 132 ∷ 135 ∷ 162 ∷ 65 ∷ 30 ∷ 30 ∷ 228 ∷ 223 ∷ 185 ∷ 242 ∷ 42 ∷ 134 ∷ 20 ∷ 146 ∷ 210 ∷ 12 ∷ 71 ∷ 101 ∷ 21 ∷ 12 ∷ 12 ∷ 121 ∷ 74 ∷ 189 ∷ 112 ∷ 248 ∷ 20 ∷ 124 ∷ []

abbrev pub digest20 : List ℕ
digest20 = 207 ∷ 118 ∷ 5 ∷ 237 ∷ 27 ∷ 199 ∷ 53 ∷ 246 ∷ 200 ∷ 37 ∷ 85 ∷ 65 ∷ 84 ∷ 98 ∷ 116 ∷ 103 ∷ 225 ∷ 202 ∷ 201 ∷ 223 ∷ 84 ∷ 206 ∷ 232 ∷ 105 ∷ 146 ∷ 24 ∷ 237 ∷ 67 ∷ 70 ∷ 3 ∷ 197 ∷ 104 ∷ []

abbrev pub digest21 : List ℕ
digest21 = 89 ∷ 203 ∷ 114 ∷ 181 ∷ 178 ∷ 69 ∷ 148 ∷ 242 ∷ 33 ∷ 41 ∷ 12 ∷ 204 ∷ 247 ∷ 129 ∷ 105 ∷ 70 ∷ 3 ∷ 37 ∷ 166 ∷ 124 ∷ 254 ∷ 60 ∷ 87 ∷ 193 ∷ 197 ∷ 160 ∷ 46 ∷ 123 ∷ 47 ∷ 192 ∷ 65 ∷ 93 ∷ []

abbrev pub digest22 : List ℕ
digest22 = 159 ∷ 188 ∷ 235 ∷ 29 ∷ 38 ∷ 202 ∷ 204 ∷ 38 ∷ 127 ∷ 51 ∷ 11 ∷ 216 ∷ 244 ∷ 183 ∷ 114 ∷ 133 ∷ 241 ∷ 198 ∷ 13 ∷ 239 ∷ 26 ∷ 99 ∷ 15 ∷ 20 ∷ 127 ∷ 91 ∷ 65 ∷ 72 ∷ 144 ∷ 43 ∷ 3 ∷ 206 ∷ []

abbrev pub digest23 : List ℕ
digest23 = 194 ∷ 166 ∷ 251 ∷ 137 ∷ 190 ∷ 76 ∷ 138 ∷ 235 ∷ 122 ∷ 243 ∷ 74 ∷ 121 ∷ 108 ∷ 48 ∷ 192 ∷ 95 ∷ 5 ∷ 129 ∷ 232 ∷ 225 ∷ 241 ∷ 222 ∷ 107 ∷ 198 ∷ 239 ∷ 130 ∷ 229 ∷ 237 ∷ 173 ∷ 111 ∷ 181 ∷ 205 ∷ []

abbrev pub digest24 : List ℕ
digest24 = 79 ∷ 206 ∷ 113 ∷ 101 ∷ 96 ∷ 68 ∷ 175 ∷ 58 ∷ 12 ∷ 75 ∷ 174 ∷ 98 ∷ 33 ∷ 149 ∷ 101 ∷ 58 ∷ 175 ∷ 178 ∷ 225 ∷ 202 ∷ 12 ∷ 234 ∷ 51 ∷ 195 ∷ 101 ∷ 51 ∷ 72 ∷ 190 ∷ 183 ∷ 53 ∷ 51 ∷ 217 ∷ []

abbrev pub digest25 : List ℕ
digest25 = 1 ∷ 62 ∷ 223 ∷ 49 ∷ 134 ∷ 225 ∷ 114 ∷ 159 ∷ 156 ∷ 84 ∷ 65 ∷ 148 ∷ 222 ∷ 214 ∷ 118 ∷ 120 ∷ 168 ∷ 210 ∷ 203 ∷ 194 ∷ 167 ∷ 187 ∷ 57 ∷ 151 ∷ 87 ∷ 76 ∷ 142 ∷ 169 ∷ 203 ∷ 213 ∷ 67 ∷ 63 ∷ []

abbrev pub digest26 : List ℕ
digest26 = 46 ∷ 215 ∷ 70 ∷ 143 ∷ 225 ∷ 136 ∷ 0 ∷ 85 ∷ 135 ∷ 248 ∷ 51 ∷ 50 ∷ 177 ∷ 248 ∷ 213 ∷ 223 ∷ 35 ∷ 173 ∷ 16 ∷ 232 ∷ 180 ∷ 62 ∷ 128 ∷ 139 ∷ 135 ∷ 50 ∷ 139 ∷ 224 ∷ 61 ∷ 2 ∷ 199 ∷ 253 ∷ []

abbrev pub digest27 : List ℕ
digest27 = 217 ∷ 244 ∷ 250 ∷ 209 ∷ 213 ∷ 88 ∷ 159 ∷ 106 ∷ 140 ∷ 198 ∷ 14 ∷ 212 ∷ 91 ∷ 174 ∷ 89 ∷ 57 ∷ 9 ∷ 78 ∷ 247 ∷ 97 ∷ 210 ∷ 8 ∷ 47 ∷ 185 ∷ 106 ∷ 240 ∷ 36 ∷ 228 ∷ 58 ∷ 107 ∷ 60 ∷ 224 ∷ []

abbrev pub digest28 : List ℕ
digest28 = 196 ∷ 132 ∷ 36 ∷ 253 ∷ 141 ∷ 222 ∷ 102 ∷ 188 ∷ 233 ∷ 248 ∷ 244 ∷ 72 ∷ 103 ∷ 153 ∷ 52 ∷ 214 ∷ 236 ∷ 209 ∷ 72 ∷ 46 ∷ 97 ∷ 92 ∷ 185 ∷ 247 ∷ 206 ∷ 212 ∷ 178 ∷ 180 ∷ 49 ∷ 83 ∷ 168 ∷ 218 ∷ []

abbrev pub digest29 : List ℕ
digest29 = 213 ∷ 96 ∷ 170 ∷ 61 ∷ 13 ∷ 211 ∷ 106 ∷ 76 ∷ 141 ∷ 248 ∷ 65 ∷ 60 ∷ 98 ∷ 30 ∷ 170 ∷ 140 ∷ 51 ∷ 6 ∷ 217 ∷ 169 ∷ 229 ∷ 173 ∷ 78 ∷ 161 ∷ 209 ∷ 148 ∷ 164 ∷ 82 ∷ 237 ∷ 192 ∷ 201 ∷ 151 ∷ []

abbrev pub digest30 : List ℕ
digest30 = 229 ∷ 7 ∷ 109 ∷ 191 ∷ 221 ∷ 79 ∷ 37 ∷ 58 ∷ 207 ∷ 240 ∷ 37 ∷ 4 ∷ 55 ∷ 106 ∷ 90 ∷ 72 ∷ 227 ∷ 3 ∷ 71 ∷ 41 ∷ 33 ∷ 222 ∷ 118 ∷ 82 ∷ 24 ∷ 203 ∷ 118 ∷ 83 ∷ 78 ∷ 224 ∷ 223 ∷ 139 ∷ []

abbrev pub digest31 : List ℕ
digest31 = 109 ∷ 107 ∷ 253 ∷ 194 ∷ 67 ∷ 167 ∷ 172 ∷ 234 ∷ 76 ∷ 83 ∷ 18 ∷ 9 ∷ 72 ∷ 66 ∷ 210 ∷ 216 ∷ 225 ∷ 128 ∷ 181 ∷ 87 ∷ 243 ∷ 143 ∷ 223 ∷ 22 ∷ 32 ∷ 127 ∷ 167 ∷ 202 ∷ 238 ∷ 83 ∷ 187 ∷ 110 ∷ []

abbrev pub digest32 : List ℕ
digest32 = 236 ∷ 152 ∷ 83 ∷ 147 ∷ 197 ∷ 188 ∷ 118 ∷ 218 ∷ 11 ∷ 185 ∷ 19 ∷ 44 ∷ 174 ∷ 82 ∷ 112 ∷ 239 ∷ 77 ∷ 89 ∷ 135 ∷ 97 ∷ 189 ∷ 52 ∷ 57 ∷ 103 ∷ 69 ∷ 97 ∷ 230 ∷ 229 ∷ 90 ∷ 42 ∷ 138 ∷ 155 ∷ []

abbrev pub digest33 : List ℕ
digest33 = 149 ∷ 238 ∷ 181 ∷ 215 ∷ 106 ∷ 208 ∷ 207 ∷ 90 ∷ 95 ∷ 45 ∷ 202 ∷ 164 ∷ 79 ∷ 166 ∷ 171 ∷ 145 ∷ 45 ∷ 203 ∷ 247 ∷ 117 ∷ 176 ∷ 91 ∷ 248 ∷ 95 ∷ 47 ∷ 102 ∷ 183 ∷ 171 ∷ 15 ∷ 120 ∷ 226 ∷ 171 ∷ []

abbrev pub digest34 : List ℕ
digest34 = 119 ∷ 100 ∷ 104 ∷ 176 ∷ 152 ∷ 26 ∷ 205 ∷ 128 ∷ 62 ∷ 246 ∷ 132 ∷ 1 ∷ 205 ∷ 70 ∷ 151 ∷ 180 ∷ 200 ∷ 31 ∷ 30 ∷ 62 ∷ 187 ∷ 71 ∷ 21 ∷ 26 ∷ 27 ∷ 20 ∷ 194 ∷ 126 ∷ 243 ∷ 139 ∷ 241 ∷ 86 ∷ []

abbrev pub digest35 : List ℕ
digest35 = 245 ∷ 31 ∷ 5 ∷ 17 ∷ 18 ∷ 116 ∷ 204 ∷ 49 ∷ 139 ∷ 163 ∷ 163 ∷ 106 ∷ 132 ∷ 170 ∷ 145 ∷ 48 ∷ 254 ∷ 1 ∷ 56 ∷ 128 ∷ 173 ∷ 172 ∷ 126 ∷ 67 ∷ 183 ∷ 20 ∷ 26 ∷ 178 ∷ 74 ∷ 92 ∷ 21 ∷ 207 ∷ []

abbrev pub bundle1 : SpendBundle
bundle1 = bundle_of (unreadable (7 ∷ []) (replicate 32 1) ∷ [])

abbrev pub bundle2 : SpendBundle
bundle2 = bundle_of (spend (7 ∷ []) (zeros 32) [] ∷ [])

abbrev pub bundle3 : SpendBundle
bundle3 = bundle_of (spend (7 ∷ []) (replicate 32 1) (output (replicate 32 1) 128 ∷ []) ∷ [])

abbrev pub bundle4 : SpendBundle
bundle4 = bundle_of (spend [] (zeros 32) [] ∷ [])

abbrev pub bundle5 : SpendBundle
bundle5 = bundle_of (spend (8 ∷ []) (zeros 32) (output (replicate 32 1) 0 ∷ output (replicate 32 1) 0 ∷ []) ∷ [])

abbrev pub bundle6 : SpendBundle
bundle6 = bundle_cells 1 (spend_cells 1 ((8 ∷ []) ++ zeros 72) (zeros 32) true 255 (output (replicate 32 1) 0 ∷ output (replicate 32 1) 0 ∷ zero_output ∷ zero_output ∷ []) ∷ zero_spend ∷ zero_spend ∷ zero_spend ∷ [])

abbrev pub bundle7 : SpendBundle
bundle7 = bundle_cells 1 (spend_cells 74 ((7 ∷ []) ++ zeros 72) (replicate 32 1) false 0 (replicate 4 zero_output) ∷ zero_spend ∷ zero_spend ∷ zero_spend ∷ [])

abbrev pub bundle8 : SpendBundle
bundle8 = bundle_cells 0 (spend_cells 0 (zeros 73) (zeros 32) false 0 (zero_output ∷ zero_output ∷ zero_output ∷ output (zeros 32) 1 ∷ []) ∷ zero_spend ∷ zero_spend ∷ zero_spend ∷ [])

abbrev pub bundle9 : SpendBundle
bundle9 = bundle_cells 1 (spend_cells 2 ((1 ∷ 1 ∷ []) ++ zeros 70 ++ (1 ∷ [])) (zeros 32) true 0 (replicate 4 zero_output) ∷ zero_spend ∷ zero_spend ∷ zero_spend ∷ [])

abbrev pub bundle10 : SpendBundle
bundle10 = bundle_cells 1 (spend_cells 2 ((1 ∷ 1 ∷ []) ++ zeros 71) (zeros 32) true 0 (zero_output ∷ zero_output ∷ zero_output ∷ output (zeros 32) 1 ∷ []) ∷ zero_spend ∷ zero_spend ∷ zero_spend ∷ [])

abbrev pub bundle11 : SpendBundle
bundle11 = bundle_cells 255 (spend_cells 2 ((1 ∷ 1 ∷ []) ++ zeros 71) (zeros 32) true 0 (replicate 4 zero_output) ∷ zero_spend ∷ zero_spend ∷ zero_spend ∷ [])

abbrev pub bundle12 : SpendBundle
bundle12 = bundle_cells 1 (spend_cells 1 ((7 ∷ []) ++ zeros 72) (zeros 32) true 0 (replicate 4 zero_output) ∷ zero_spend ∷ zero_spend ∷ spend_cells 0 (zeros 73) (zeros 32) false 0 (zero_output ∷ zero_output ∷ zero_output ∷ output (zeros 32) 1 ∷ []) ∷ [])

abbrev pub bundle13 : SpendBundle
bundle13 = bundle_cells 255 (spend_cells 0 (zeros 73) (zeros 32) true 0 (replicate 4 zero_output) ∷ zero_spend ∷ zero_spend ∷ zero_spend ∷ [])

abbrev pub bundle14 : SpendBundle
bundle14 = bundle_cells 1 (spend_cells 0 (zeros 73) (zeros 32) true 0 (replicate 4 zero_output) ∷ spend_cells 0 (zeros 73) (zeros 32) false 0 (output (zeros 14 ++ (1 ∷ []) ++ zeros 17) 0 ∷ zero_output ∷ zero_output ∷ zero_output ∷ []) ∷ zero_spend ∷ zero_spend ∷ [])

abbrev pub bundle15 : SpendBundle
bundle15 = bundle_cells 0 (spend_cells 0 (zeros 62 ++ (1 ∷ []) ++ zeros 10) (zeros 32) false 0 (replicate 4 zero_output) ∷ zero_spend ∷ zero_spend ∷ zero_spend ∷ [])

abbrev pub bundle16 : SpendBundle
bundle16 = bundle_of (spend (7 ∷ []) (replicate 32 1) (output (replicate 32 1) 128 ∷ []) ∷ spend (digest1 ++ replicate 32 1 ++ (0 ∷ 128 ∷ [])) (zeros 32) [] ∷ [])

abbrev pub bundle17 : SpendBundle
bundle17 = bundle_cells 1 (spend_cells 1 ((7 ∷ []) ++ zeros 72) (replicate 32 1) false 0 (zero_output ∷ zero_output ∷ zero_output ∷ output (zeros 32) 1 ∷ []) ∷ zero_spend ∷ zero_spend ∷ zero_spend ∷ [])
