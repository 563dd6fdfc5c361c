mod Rings
mod FromLinks
mod Linking
