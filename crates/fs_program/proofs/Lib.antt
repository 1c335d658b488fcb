mod Ends
mod Findings
mod News
mod Sessions
mod Answered
mod Copied
mod Unpacked
